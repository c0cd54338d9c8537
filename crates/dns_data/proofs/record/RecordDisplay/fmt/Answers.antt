use Rattle.std.proofs.Common.{ap, ◌∙◌}
use Rattle.std.proofs.Output.{has_written_of_eq}
use Rattle.dns_data.specs.Types.{type_text}
use Rattle.dns_data.proofs.DataLaws.{some_items}
use Rattle.dns_data.proofs.TextLemmas.{line_text}
use Rattle.dns_data.proofs.record.RecordDisplay.fmt.Goals as goal

pub returns-clause-writes : goal.returns-clause-writes
returns-clause-writes g c = λ plain ok.
    let r = c.args.self.now in
    let text = line_text r c.seconds-ttl.result c.text-record_type.result.now c.seconds-ttl.ensures.value (c.text-record_type.ensures ∙ ap type_text c.record_type.ensures.value) (some_items r.rdata c.record_type.ensures.record.rdata) in
    has_written_of_eq _ _ _ _ _ text (c.write.ensures.writes plain ok)

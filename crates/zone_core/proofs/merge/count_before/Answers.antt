use Rattle.std.proofs.Common.{not, ◌∙◌, is_lt}
use Rattle.dns_data.specs.declared.record.Record.{Record}
use Rattle.zone_core.specs.Sets.{record_order}
use Rattle.zone_core.proofs.MergeLemmas.{count_is}
use Rattle.zone_core.proofs.merge.count_before.Goals as goal

pub returns : goal.returns
returns c = c.unwrap_or.ensures ∙ count_is (λ (r : Record). not (is_lt (record_order r c.args.rr.now))) c.args.records.now c.first_from.result c.first_from.ensures

use Rattle.std.proofs.Common.{◌≡◌, ◌∙◌, sym, ap, subst, List, rules}
use Rattle.std.specs.Prelude.{string_bytes}
use Rattle.std.specs.List.{AllByRecursion}
use Rattle.dns_data.specs.declared.record.Record.{Record}
use Rattle.dns_data.specs.Rdata.{IsRecord}
use Rattle.dns_master.specs.ZoneText.{records_text}
use Rattle.office_model.specs.RecordLines.{records_in}
use Rattle.office_model.proofs.RecordLineLemmas.{printed_records}
use Rattle.office_model.proofs.record_lines.RecordLines.of.Goals as goal

pub invariant_of-result : goal.invariant_of-result
invariant_of-result c =
    let printed : string_bytes c.in_ok-text.text ≡ records_text c.args.records.now = search rules in
    let same = ap records_in printed ∙ printed_records c.args.records.now c.reveal_records.ensures in
    record {
      records = subst (λ (rs : List Record). AllByRecursion IsRecord rs) (sym same) c.reveal_records.ensures;
      lines = printed ∙ ap records_text (sym same);
    }

pub returns : goal.returns
returns c =
    let printed : string_bytes c.in_ok-text.text ≡ records_text c.args.records.now = search rules in
    ap records_in printed ∙ printed_records c.args.records.now c.reveal_records.ensures

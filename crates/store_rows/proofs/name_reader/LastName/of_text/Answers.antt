use Rattle.std.proofs.Common.{sym, ap, ◌∙◌}
use Rattle.store_rows.specs.RowReading.{name_in}
use Rattle.store_rows.proofs.ColumnLaws.{name_read}
use Rattle.store_rows.proofs.RowSteps.{same_spelling}
use Rattle.store_rows.proofs.name_reader.LastName.of_text.Goals as goal

pub returns : goal.returns
returns c =
    let last = c.args.self.now in
    let same = same_spelling c.as_str.result.now c.args.text.now c.ne.result c.ne.ensures c.if-ne.false in
    let is = sym same ∙ c.as_str.ensures.value ∙ last.spelled in
    (c.labels.ensures.name, ap name_in is ∙ name_read last.name c.labels.ensures.name)

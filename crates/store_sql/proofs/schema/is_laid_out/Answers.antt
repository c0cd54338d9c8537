use Rattle.std.proofs.Common.{◌≡◌, ◌∙◌, ap, sym, arith}
use Rattle.sqlite_schema.specs.declared.schema.Schema.{Schema}
use Rattle.store_sql.specs.Tables.{office_schema}
use Rattle.store_sql.proofs.WholeTables.{five}
use Rattle.store_sql.proofs.schema.is_laid_out.Goals as goal

same_parts : (a b : Schema) → a.tables ≡ b.tables → a.indexes ≡ b.indexes → a.views ≡ b.views → a ≡ b
same_parts a b tables indexes views =
    ap (λ x. let s : Schema = record a { tables = x } in s) tables ∙ ap (λ x. let s : Schema = record a { tables = b.tables; indexes = x } in s) indexes ∙ ap (λ x. let s : Schema = record b { views = x } in s) views

pub returns : goal.returns
returns c =
    let items = five c.as_slice.result.now c.meta-item.result c.zones-item.result c.records-item.result c.receipts-item.result c.changes-item.result (omega arith) (omega arith) c.meta-item.is c.zones-item.is c.records-item.is c.receipts-item.is c.changes-item.is in
    let one = c.is_meta.ensures.0 c.if-not-is_meta.false in
    let two = c.is_zones.ensures.0 c.if-not-is_zones.false in
    let three = c.is_records.ensures.0 c.if-not-is_records.false in
    let four = c.is_receipts.ensures.0 c.if-not-is_receipts.false in
    let last = c.is_changes.ensures.0 c.if-not-is_changes.false in
    let tables = sym c.as_slice.ensures ∙ (rw (one, two, three, four, last) at items) in
    let indexes = sym c.as_slice-2.ensures ∙ c.are_indexes.ensures.0 c.if-not-are_indexes.false in (
      (λ none. same_parts c.args.schema.now (office_schema c.args.layout) tables indexes (c.is_empty.ensures.0 none)),
      (λ e. c.is_empty.ensures.1 (ap (λ (s : Schema). s.views) e)),
    )

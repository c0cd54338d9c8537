use Rattle.std.proofs.Common.{◌∙◌, ap, sym, option_map, Bor, ℕ, List}
use Rattle.refusals.specs.declared.row.Kind.{Kind}
use Rattle.refusals.specs.Tables.{RowOf}
use Rattle.refusals.proofs.NumberLemmas.{numbered_by}
use Rattle.refusals.proofs.number.row_among.Goals as goal

abbrev line_row : Bor (List ℕ) × Kind × Bor (List ℕ) × Bor (List ℕ) × Bor (List ℕ) × Bor (List ℕ) × Bor (List ℕ) → RowOf
line_row r = record { number = r.0.now; kind = r.1; name = r.2.now; words = r.3.now; meaning = r.4.now; advice = r.5.now; source = r.6.now }

pub returns-in-Some : goal.returns-in-Some
returns-in-Some c =
    let found = ap (option_map line_row) (sym c.in-Some.is ∙ c.line_of.ensures) ∙ numbered_by line_row c.args.table.now c.args.number.now in
    cc

pub returns-in-None : goal.returns-in-None
returns-in-None c = ap (option_map line_row) (sym c.in-None.is ∙ c.line_of.ensures) ∙ numbered_by line_row c.args.table.now c.args.number.now

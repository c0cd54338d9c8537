-- What `explain` prints: the rows of a number that the program prints, or all rows.
use Rattle.std.specs.Prelude.{ℕ, List, Option, Some, None, Result, Ok}
use Rattle.cli_core.specs.declared.job.TextForm.{TextForm}
use Rattle.cli_core.specs.declared.job.TextForm.TheVariants.{Plain, Json}
use Rattle.refusals.specs.Tables.{RowOf, rows}
use Rattle.refusals.specs.Numbers.{explained}
use Rattle.refusals.specs.Texts.{text_of, json_of}
use Rattle.cli_core.specs.declared.refusal.Refusal.{Refusal}
use Rattle.cli_core.specs.declared.refusal.Refusal.TheVariants.{UnknownNumber}
use Rattle.cli_core.specs.LineFaults.{◌>>=◌, or_refused}

-- a row for each part of a number, and all rows without one
abbrev pub rows_asked : Option (List ℕ) → Result (List RowOf) Refusal
rows_asked None = Ok rows
rows_asked (Some number) = or_refused (explained number) UnknownNumber

abbrev pub rows_text : TextForm → List RowOf → List ℕ
rows_text Plain found = text_of found
rows_text Json found = json_of found

abbrev pub explain_made : Option (List ℕ) → TextForm → Result (List ℕ) Refusal
explain_made number form = rows_asked number >>= λ found. Ok (rows_text form found)

-- whatever the input is
abbrev pub explain_text : Option (List ℕ) → TextForm → List ℕ → Result (List ℕ) Refusal
explain_text number form input = explain_made number form

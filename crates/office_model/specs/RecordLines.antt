-- The records that a text of record lines has.
use Rattle.std.specs.Prelude.{◌≡◌, ℕ, List, [], ◌∷◌, ◌++◌, Option, None, Result, Ok, Err, IsSomeAnd}
use Rattle.std.specs.Borrow.{Bor}
use Rattle.std.specs.List.{AllByRecursion}
use Rattle.dns_data.specs.declared.record.Record.{Record}
use Rattle.dns_data.specs.Rdata.{IsRecord}
use Rattle.dns_data.specs.Text.{record_line}
use Rattle.dns_master.specs.Files.{placed_file}
use Rattle.dns_master.specs.ZoneText.{origin_line, records_text}

-- those that were read, and none where a refusal came
abbrev pub read_records : {E : Type 0} → Result (List Record) E → List Record
read_records (Ok records) = records
read_records (Err fault) = []

-- those of a master file that is a line for the root as origin, and then the text
unfoldable pub records_in : List ℕ → List Record
records_in text = read_records (placed_file (origin_line [] ++ text) [])

-- the text is the lines of the records that it has
pub record AreLines (text : List ℕ) : Type 0 where
  pub records : AllByRecursion IsRecord (records_in text)
  pub lines : text ≡ records_text (records_in text)

-- the line of the first record, and the lines of the others; nothing where there is no record
abbrev pub IsFirst : List Record → Option (Bor (List ℕ) × Bor (List ℕ)) → Type 0
IsFirst [] found = found ≡ None
IsFirst (r ∷ rs) found = IsSomeAnd found (λ cut. (cut.0.now ≡ record_line r) × (cut.1.now ≡ records_text rs))

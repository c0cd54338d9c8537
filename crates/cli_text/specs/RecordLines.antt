-- The lines of records.
use Rattle.std.specs.Prelude.{ℕ, List, [], ◌∷◌, ◌++◌}
use Rattle.std.specs.List.{flat_map}
use Rattle.dns_data.specs.declared.record.Record.{Record}
use Rattle.dns_data.specs.Text.{record_line}

abbrev pub record_text : Record → List ℕ
record_text r = record_line r ++ 10 ∷ []

abbrev pub records_text : List Record → List ℕ
records_text rs = flat_map record_text rs

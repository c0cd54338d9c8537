-- What `split` prints: a part of the records of a master file, whatever their types.
use Rattle.std.specs.Prelude.{ℕ, List, Result}
use Rattle.dns_names.specs.Reading.{absolute_name}
use Rattle.dns_master.specs.declared.parting.FilePart.{FilePart}
use Rattle.dns_master.specs.Parting.{part_of_text}
use Rattle.cli_core.specs.declared.refusal.Refusal.{Refusal}
use Rattle.cli_core.specs.LineFaults.{◌>>=◌, limited, of_names, of_masters}

-- the text of a part, or the first refusal of the records
abbrev pub part_in : FilePart → List (List ℕ) → List ℕ → Result (List ℕ) Refusal
part_in part origin text = of_masters (part_of_text part text origin)

-- the part of an input, under the origin that a word is
abbrev pub part_printed : FilePart → List ℕ → List ℕ → Result (List ℕ) Refusal
part_printed part word input = of_names (absolute_name word) >>= λ origin. limited input >>= part_in part origin

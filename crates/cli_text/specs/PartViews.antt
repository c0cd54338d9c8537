-- What the calls that part an input answer.
use Rattle.std.specs.Prelude.{ℕ, suc, List, [], ◌∷◌, ◌==◌, if◌then◌else◌, Result}
use Rattle.dns_data.specs.declared.record.Record.{Record}
use Rattle.zone_core.specs.Updates.{UpdateOf}
use Rattle.cli_core.specs.declared.refusal.Refusal.{Refusal}
use Rattle.cli_core.specs.declared.refusal.Refusal.TheVariants.{NoDivider}
use Rattle.cli_core.specs.LineFaults.{◌>>=◌, or_refused}
use Rattle.cli_text.specs.Apply.{records_of, update_behind}
use Rattle.cli_text.specs.declared.parts.InputParts.{InputParts}
use Rattle.cli_text.specs.Parts.{Parts, divided}

-- the length of the first line of a text, with its end
abbrev pub line_len : List ℕ → ℕ
line_len [] = 0
line_len (o ∷ rest) = if o == 10 then 1 else suc (line_len rest)

-- the parts of an input, as lists
abbrev pub parts_in : InputParts → Parts
parts_in p = record { file = p.file.now; divider = p.divider.now; items = p.items.now }

-- the records of the master file in an input
abbrev pub records_in : List ℕ → Result (List Record) Refusal
records_in input = or_refused (divided input) NoDivider >>= λ parts. records_of parts.file

-- the update in an input
abbrev pub update_in : List ℕ → Result UpdateOf Refusal
update_in input = or_refused (divided input) NoDivider >>= update_behind

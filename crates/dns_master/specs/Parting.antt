-- The parts of a text: the records that are kept, those that a signer made, and the rest; and how each part is printed.
use Rattle.std.specs.Prelude.{ℕ, List, [], ◌∷◌, ◌++◌, codes, decimal, length, nat_lt, Bool, true, false, not, if◌then◌else◌, Result, Ok, Err}
use Rattle.std.specs.List.{filter}
use Rattle.dns_names.specs.Spelling.{name_text}
use Rattle.dns_names.specs.Order.{same_name}
use Rattle.dns_data.specs.declared.record.Record.{Record}
use Rattle.dns_data.specs.Items.{ItemText, plain}
use Rattle.dns_data.specs.Rdata.{IsRecord}
use Rattle.dns_master.specs.declared.master_fault.MasterFault.{MasterFault}
use Rattle.dns_master.specs.declared.master_fault.MasterFault.TheVariants.{TooLarge}
use Rattle.dns_master.specs.declared.file.FileFault.{FileFault}
use Rattle.dns_master.specs.declared.parting.FilePart.{FilePart}
use Rattle.dns_master.specs.declared.parting.FilePart.TheVariants as of_file
use Rattle.dns_master.specs.ZoneText.{ended_line, origin_line}
use Rattle.dns_master.specs.OtherTypes.{is_signer_type, has_keys}
use Rattle.dns_master.specs.Joined.{Line, apart, flagged, joined_line}
use Rattle.dns_master.specs.AnyRecords.{OtherText, AnyRecord, Kept, Other, placed_any, any_on_lines}

-- ---- the parts

-- whether a part has the records of types that are kept
abbrev pub has_kept : FilePart → Bool
has_kept of_file.Kept = true
has_kept p = false

-- whether it has those of another type, by the word for it
abbrev pub has_kind : FilePart → List ℕ → Bool
has_kind of_file.Kept kind = false
has_kind of_file.Signer kind = is_signer_type kind
has_kind of_file.Rest kind = not (is_signer_type kind)

abbrev pub is_in : FilePart → AnyRecord → Bool
is_in p (Kept r) = has_kept p
is_in p (Other o) = has_kind p o.kind

-- a record of a kept type is one as the type has them
abbrev pub IsKept : AnyRecord → Type 0
IsKept (Kept r) = IsRecord r
IsKept (Other o) = Unit {0}

-- the records of a part, in their order
abbrev pub records_in : FilePart → List AnyRecord → List AnyRecord
records_in p rs = filter (is_in p) rs

-- the records of kept types
abbrev pub kept_of : List AnyRecord → List Record
kept_of [] = []
kept_of ((Kept r) ∷ rs) = r ∷ kept_of rs
kept_of ((Other o) ∷ rs) = kept_of rs

-- all parts
abbrev pub all_parts : List FilePart
all_parts = of_file.Kept ∷ of_file.Signer ∷ of_file.Rest ∷ []

-- ---- their text

-- owner, TTL, class and type, and the data as they are written
abbrev pub other_items : OtherText → List ItemText
other_items o = plain (name_text o.owner) ∷ plain (decimal o.ttl) ∷ plain (codes "IN") ∷ plain o.kind ∷ o.fields

-- the same as a line, in which the value of a key stands directly after it if the type has keys
abbrev pub line_of : List (List ℕ) → ℕ → List ℕ → List ItemText → Line
line_of owner ttl kind fields = record {
  first = plain (name_text owner);
  others = apart (plain (decimal ttl)) ∷ apart (plain (codes "IN")) ∷ apart (plain kind) ∷ flagged (has_keys kind) false fields;
}

abbrev pub other_line : OtherText → List ℕ
other_line o = joined_line (line_of o.owner o.ttl o.kind o.fields)

-- the line `$ORIGIN` where the origin changes
abbrev pub origin_change : List (List ℕ) → List (List ℕ) → List ℕ
origin_change at origin = if same_name at origin then [] else origin_line origin

-- the lines of a record where this origin is in force
abbrev pub any_lines : List (List ℕ) → AnyRecord → List ℕ
any_lines at (Kept r) = ended_line r
any_lines at (Other o) = origin_change at o.origin ++ other_line o

-- the origin in force after them
abbrev pub origin_behind : List (List ℕ) → AnyRecord → List (List ℕ)
origin_behind at (Kept r) = at
origin_behind at (Other o) = o.origin

abbrev pub any_text : List (List ℕ) → List AnyRecord → List ℕ
any_text at [] = []
any_text at (r ∷ rs) = any_lines at r ++ any_text (origin_behind at r) rs

abbrev pub origin_after : List (List ℕ) → List AnyRecord → List (List ℕ)
origin_after at [] = at
origin_after at (r ∷ rs) = origin_after (origin_behind at r) rs

-- The text of a part of records: the line `$ORIGIN` and the origin that is handed in, and the lines of its records, in their order.
abbrev pub part_text : FilePart → List (List ℕ) → List AnyRecord → List ℕ
part_text p origin rs = origin_line origin ++ any_text origin (records_in p rs)

-- the lines of records after a text
abbrev pub with_lines : List ℕ → FilePart → List (List ℕ) → Result (List AnyRecord) FileFault → Result (List ℕ) FileFault
with_lines text p at (Ok rs) = Ok (text ++ any_text at (records_in p rs))
with_lines text p at (Err fault) = Err fault

abbrev pub placed_part : FilePart → List ℕ → List (List ℕ) → Result (List ℕ) FileFault
placed_part p text origin = with_lines (origin_line origin) p origin (placed_any text origin)

-- The text of a part of a text, or the first refusal of its records.
abbrev pub part_of_text : FilePart → List ℕ → List (List ℕ) → Result (List ℕ) MasterFault
part_of_text p text origin = if nat_lt 4194304 (length text) then Err TooLarge else any_on_lines text (placed_part p text origin)

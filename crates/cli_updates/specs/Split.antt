-- What `request --split` prints: the bodies of as many updates as the limits of one want, of its items.
use Rattle.std.specs.Prelude.{ℕ, ◌+◌, List, [], ◌∷◌, ◌++◌, map, min, decimal, Result, Ok, length, nat_lt, if◌then◌else◌, Err}
use Rattle.std.specs.List.{filter}
use Rattle.dns_data.specs.declared.rdata.Data.{Data}
use Rattle.dns_data.specs.declared.rdata.Data.TheVariants.{Soa}
use Rattle.zone_core.specs.declared.update.Operation.{Operation}
use Rattle.zone_core.specs.declared.update.Operation.TheVariants.{Add}
use Rattle.zone_core.specs.Serials.{serial_sum}
use Rattle.zone_core.specs.declared.faults.UpdateFault.TheVariants.{TwoSoa}
use Rattle.zone_core.specs.Updates.{UpdateOf, adds_soa, update_of}
use Rattle.update_lines.specs.Reading.{lists_of}
use Rattle.update_lines.specs.declared.items_fault.ItemsFault.TheVariants.{Update}
use Rattle.update_lines.specs.ItemFaults.{of_updates}
use Rattle.wire_json.specs.UpdateTexts.{update_text}
use Rattle.cli_core.specs.declared.refusal.Refusal.{Refusal}
use Rattle.cli_core.specs.declared.refusal.Refusal.TheVariants.{Items}
use Rattle.cli_core.specs.LineFaults.{◌>>=◌, limited, of_items}
use Rattle.cli_updates.specs.Request.{body_line, identifier_in}
use Rattle.cli_updates.specs.Pieces.{split_of}

-- ---- a part

-- the identifier of a part: that which was given, a hyphen and the number of the part, from 1
abbrev pub numbered : List ℕ → ℕ → List ℕ
numbered word n = word ++ 45 ∷ decimal n

-- by how much serials are advanced: one for each part before, and at most what RFC 1982 section 3.1 allows to be added
abbrev pub advance : ℕ → ℕ
advance before = min before 2147483647

-- data with the serial of an SOA advanced
abbrev pub advanced_data : ℕ → Data → Data
advanced_data n (Soa soa) = Soa (record soa { serial = record { 0 = serial_sum soa.serial.0 n } })
advanced_data n rdata = rdata

-- an operation with the serial of an SOA that it adds advanced
abbrev pub advanced : ℕ → Operation → Operation
advanced n (Add r) = Add (record r { rdata = advanced_data n r.rdata })
advanced n op = op

-- the update of a part after so many others
abbrev pub part_update : ℕ → UpdateOf → Result UpdateOf Refusal
part_update before u = of_items (of_updates (update_of u.prerequisites (map (advanced (advance before)) u.operations)))

-- its body
abbrev pub part_body : List ℕ → ℕ → UpdateOf → Result (List ℕ) Refusal
part_body word before u = identifier_in (numbered word (before + 1)) >>= λ id. part_update before u >>= λ update. body_line (update_text id update)

-- ---- all parts

-- a text with the body of a part after it
abbrev pub with_body : List ℕ → ℕ → List ℕ → UpdateOf → Result (List ℕ) Refusal
with_body word before text u = part_body word before u >>= λ body. Ok (text ++ body)

-- the bodies of parts after so many others, and after a text
abbrev pub bodies_behind : List ℕ → ℕ → List ℕ → List UpdateOf → Result (List ℕ) Refusal
bodies_behind word before text [] = Ok text
bodies_behind word before text (u ∷ us) = with_body word before text u >>= λ t. bodies_behind word (before + 1) t us

-- the lists of items of which at most one adds an SOA
abbrev pub with_one_soa : UpdateOf → Result UpdateOf Refusal
with_one_soa u = if nat_lt 1 (length (filter adds_soa u.operations)) then Err (Items (Update TwoSoa)) else Ok u

-- the lists of items, however many there are
abbrev pub lists_in : List ℕ → Result UpdateOf Refusal
lists_in items = of_items (lists_of items) >>= with_one_soa

-- the bodies of the parts of items, which are measured under an identifier
abbrev pub split_items : List ℕ → List ℕ → List ℕ → Result (List ℕ) Refusal
split_items word id items = lists_in items >>= λ u. bodies_behind word 0 [] (split_of id u.prerequisites u.operations)

-- the same of a word with which the identifiers begin, and an input that is the items
abbrev pub split_text : List ℕ → List ℕ → Result (List ℕ) Refusal
split_text word input = identifier_in (numbered word 1) >>= λ id. limited input >>= split_items word id

-- The text of a zone: the line `$ORIGIN` and the origin, and the record lines in their order (RFC 1035 section 5.1).
use Rattle.std.specs.Prelude.{ℕ, List, [], ◌∷◌, ◌++◌, ◌==◌, if◌then◌else◌, Option, Some, None, codes, decimal}
use Rattle.std.specs.List.{flat_map}
use Rattle.dns_names.specs.Spelling.{name_text, relative_text}
use Rattle.dns_data.specs.declared.record.Record.{Record}
use Rattle.dns_data.specs.Items.{ItemText, plain, items_text}
use Rattle.dns_data.specs.Types.{type_text}
use Rattle.dns_data.specs.Rdata.{type_of}
use Rattle.dns_data.specs.Text.{data_items, record_line}
use Rattle.dns_master.specs.declared.zone_text.RelativeForm.{RelativeForm}

-- a record line with a line end
abbrev pub ended_line : Record → List ℕ
ended_line r = record_line r ++ 10 ∷ []

abbrev pub origin_line : List (List ℕ) → List ℕ
origin_line origin = codes "$ORIGIN " ++ name_text origin ++ 10 ∷ []

-- the record lines of records, in their order
abbrev pub records_text : List Record → List ℕ
records_text records = flat_map ended_line records

abbrev pub zone_text : List (List ℕ) → List Record → List ℕ
zone_text origin records = origin_line origin ++ records_text records

-- ---- relative to the origin

-- the TTL, unless it is the one in force (RFC 2308 section 4)
abbrev pub stated_ttl : ℕ → ℕ → List ItemText
stated_ttl default ttl = if ttl == default then [] else plain (decimal ttl) ∷ []

-- the owner relative to an origin, the TTL where it is not the one in force, type and data
abbrev pub relative_items : List (List ℕ) → ℕ → Record → List ItemText
relative_items origin default r =
    plain (relative_text origin r.owner) ∷ (stated_ttl default r.ttl ++ plain (type_text (type_of r.rdata)) ∷ data_items r.rdata)

abbrev pub relative_line : List (List ℕ) → ℕ → Record → List ℕ
relative_line origin default r = items_text (relative_items origin default r) ++ 10 ∷ []

abbrev pub ttl_line : ℕ → List ℕ
ttl_line ttl = codes "$TTL " ++ decimal ttl ++ 10 ∷ []

-- The text of a zone relative to its origin: the lines `$ORIGIN` and `$TTL`, with the TTL of the first record, which is the SOA
-- where they are in canonical order, and a line for each record.
abbrev pub relative_zone_text : List (List ℕ) → List Record → List ℕ
relative_zone_text origin [] = origin_line origin
relative_zone_text origin (first ∷ records) =
    origin_line origin ++ (ttl_line first.ttl ++ flat_map (relative_line origin first.ttl) (first ∷ records))

-- ---- either

-- the line of a record, relative where a form is given
abbrev pub line_in : Option RelativeForm → Record → List ℕ
line_in None r = ended_line r
line_in (Some form) r = relative_line form.origin.now form.ttl r

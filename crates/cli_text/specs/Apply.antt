-- What `apply` prints: the records of a zone after an update (RFC 2136), of an input that is a master file, a line `--`, and items.
use Rattle.std.specs.Prelude.{ℕ, ◌+◌, List, [], ◌++◌, find, count_by, ◌==◌, Option, Some, None, is_some, Result, Ok, Err}
use Rattle.std.specs.Option.{option_map, option_or}
use Rattle.dns_data.specs.declared.record.Record.{Record}
use Rattle.dns_master.specs.Files.{file_of}
use Rattle.dns_master.specs.ZoneText.{records_text}
use Rattle.zone_core.specs.declared.faults.ZoneFault.TheVariants.{NoSoa}
use Rattle.zone_core.specs.declared.rcode.Rcode.TheVariants.{NotZone}
use Rattle.zone_core.specs.declared.update.Place.{Place}
use Rattle.zone_core.specs.declared.verdict.Failed.{Failed}
use Rattle.zone_core.specs.Rcodes.{rcode_of}
use Rattle.zone_core.specs.Sets.{listing}
use Rattle.zone_core.specs.Zones.{ZoneOf, built, soa_in}
use Rattle.zone_core.specs.Updates.{UpdateOf, first_outside}
use Rattle.zone_core.specs.Prerequisites.{verdict}
use Rattle.zone_core.specs.Effects.{zone_after}
use Rattle.update_lines.specs.declared.items_fault.ItemsFault.{ItemsFault}
use Rattle.update_lines.specs.declared.items_fault.ItemsFault.TheVariants.{BadLine}
use Rattle.update_lines.specs.Reading.{items_of}
use Rattle.cli_core.specs.declared.refusal.Refusal.{Refusal}
use Rattle.cli_core.specs.declared.refusal.Refusal.TheVariants.{NoDivider, Zone, Unmet}
use Rattle.cli_core.specs.LineFaults.{◌>>=◌, or_refused, limited, of_masters, of_zones, of_items}
use Rattle.cli_text.specs.Parts.{Parts, divided}

-- ---- the zone before the update

-- the first SOA of records
abbrev pub first_soa : List Record → Option Record
first_soa records = find (λ r. is_some (soa_in r.rdata)) records

-- the origin of the zone of records: the owner of the first SOA
abbrev pub origin_of : List Record → Option (List (List ℕ))
origin_of records = option_map (λ r. r.owner) (first_soa records)

-- the zone of records, whose origin is that of the first SOA
abbrev pub zone_of_records : List Record → Result ZoneOf Refusal
zone_of_records records = or_refused (origin_of records) (Zone NoSoa) >>= λ origin. of_zones (built origin records)

-- the records of a master file that is read relative to the root
abbrev pub records_of : List ℕ → Result (List Record) Refusal
records_of file = of_masters (file_of file [])

-- the zone of a master file
abbrev pub zone_of_text : List ℕ → Result ZoneOf Refusal
zone_of_text file = records_of file >>= zone_of_records

-- ---- the update

-- how many line ends a text has
abbrev pub line_ends : List ℕ → ℕ
line_ends text = count_by (λ o. o == 10) text

-- what is read of items after so many line ends, with the line of a fault counted in the whole input
abbrev pub behind_lines : {A : Type 0} → ℕ → Result A ItemsFault → Result A ItemsFault
behind_lines lines (Err (BadLine line)) = Err (BadLine (lines + line))
behind_lines lines read = read

-- the update after the divider
abbrev pub update_behind : Parts → Result UpdateOf Refusal
update_behind parts = of_items (behind_lines (line_ends (parts.file ++ parts.divider)) (items_of parts.items))

-- ---- the zone after it

-- an item whose name is not within the zone (RFC 2136 sections 3.2 and 3.4.1)
abbrev pub not_zone : Place → Refusal
not_zone place = Unmet NotZone place.item

-- a prerequisite that does not hold (RFC 2136 section 3.2)
abbrev pub not_met : Failed → Refusal
not_met failed = Unmet (rcode_of failed.code) failed.item

-- the first item that refuses an update of a zone: names outside before prerequisites
abbrev pub first_unmet : ZoneOf → UpdateOf → Option Refusal
first_unmet zone update =
    option_or (option_map not_zone (first_outside zone.origin update)) (option_map not_met (verdict zone.records update.prerequisites))

-- the record lines of a zone, in record order
abbrev pub zone_lines : ZoneOf → List ℕ
zone_lines zone = records_text (listing zone.records)

-- what stands for a refusal that there may be
abbrev pub unless : {A : Type 0} → Option Refusal → A → Result A Refusal
unless None x = Ok x
unless (Some refusal) x = Err refusal

-- the record lines of a zone after an update, or its first refusal
abbrev pub updated : ZoneOf → UpdateOf → Result (List ℕ) Refusal
updated zone update = unless (first_unmet zone update) (zone_lines (zone_after zone update))

-- ---- all of it

-- what is printed of an input, whatever its size
abbrev pub text_after : List ℕ → Result (List ℕ) Refusal
text_after input =
    or_refused (divided input) NoDivider >>= λ parts. zone_of_text parts.file >>= λ zone. update_behind parts >>= λ update. updated zone update

-- what is printed of an input
abbrev pub apply_text : List ℕ → Result (List ℕ) Refusal
apply_text input = limited input >>= text_after

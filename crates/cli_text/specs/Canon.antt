-- What `canon` prints: the zone of an origin and a master file, as its one text in a form.
use Rattle.std.specs.Prelude.{◌≡◌, ◌≤◌, ℕ, List, Result, Ok, length}
use Rattle.std.specs.List.{AllByRecursion}
use Rattle.dns_names.specs.Labels.{IsName}
use Rattle.dns_names.specs.Reading.{absolute_name}
use Rattle.dns_data.specs.declared.record.Record.{Record}
use Rattle.dns_data.specs.Rdata.{IsRecord}
use Rattle.dns_master.specs.Files.{file_of}
use Rattle.dns_master.specs.ZoneText.{zone_text, relative_zone_text}
use Rattle.zone_core.specs.Sets.{listing}
use Rattle.zone_core.specs.Views.{zone_in, AreOfZone}
use Rattle.zone_core.specs.Zones.{ZoneOf, built}
use Rattle.cli_core.specs.declared.job.ZoneForm.{ZoneForm}
use Rattle.cli_core.specs.declared.job.ZoneForm.TheVariants.{Whole, Relative}
use Rattle.cli_core.specs.declared.refusal.Refusal.{Refusal}
use Rattle.cli_core.specs.LineFaults.{◌>>=◌, limited, of_names, of_masters, of_zones}

-- the zone of an origin and a master file
abbrev pub zone_of_file : List (List ℕ) → List ℕ → Result ZoneOf Refusal
zone_of_file origin text = of_masters (file_of text origin) >>= λ records. of_zones (built origin records)

-- the zone of a word that is its origin, and an input that is its master file
abbrev pub zone_read : List ℕ → List ℕ → Result ZoneOf Refusal
zone_read word input = of_names (absolute_name word) >>= λ origin. limited input >>= zone_of_file origin

-- the text of an origin and records, in a form
abbrev pub zone_text_in : ZoneForm → List (List ℕ) → List Record → List ℕ
zone_text_in Whole origin records = zone_text origin records
zone_text_in Relative origin records = relative_zone_text origin records

-- the text of a zone, with its records in record order
abbrev pub text_of_zone : ZoneForm → ZoneOf → List ℕ
text_of_zone form zone = zone_text_in form zone.origin (listing zone.records)

abbrev pub canon_text : ZoneForm → List ℕ → List ℕ → Result (List ℕ) Refusal
canon_text form word input = zone_read word input >>= λ zone. Ok (text_of_zone form zone)

-- The records of a zone, in record order, whose text in a form is not too long for a master file: that text, read relative to the origin,
-- is the file of this zone.
abbrev pub ZonesAreReadAgain : Type 0
ZonesAreReadAgain =
    (form : ZoneForm) (origin : List (List ℕ)) (records : List Record) → AreOfZone origin records → IsName origin → AllByRecursion IsRecord records
    → length (zone_text_in form origin records) ≤ 4194304
    → zone_of_file origin (zone_text_in form origin records) ≡ Ok (zone_in origin records)

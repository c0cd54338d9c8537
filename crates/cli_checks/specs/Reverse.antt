-- What `reverse` prints: the PTR records that the addresses of forward zones call for (RFC 1035 section 3.5).
use Rattle.std.specs.Prelude.{◌≡◌, ℕ, List, ◌++◌, codes}
use Rattle.std.specs.List.{flat_map}
use Rattle.dns_data.specs.declared.record.Record.{Record}
use Rattle.zone_tools.specs.Pointers.{ArePointers}
use Rattle.zone_tools.specs.SharedAddresses.{AreShared}
use Rattle.cli_checks.specs.declared.check.Findings.{Findings}
use Rattle.cli_checks.specs.declared.check.Findings.TheVariants.{Absent}
use Rattle.cli_text.specs.RecordLines.{record_text, records_text}

-- a comment that tells of a record whose address several names have
abbrev pub shared_line : Record → List ℕ
shared_line r = codes "; shared " ++ record_text r

abbrev pub shared_lines : List Record → List ℕ
shared_lines rs = flat_map shared_line rs

-- the lines of the pointers within an origin that records call for, and after them those of the records whose addresses several names
-- have; which are nothing that a check finds
abbrev pub IsReverseReport : List (List ℕ) → List Record → Findings → List ℕ → Type 0
IsReverseReport origin rs findings text =
    ((pointers : List Record) × (shared : List Record) × ArePointers origin rs pointers × AreShared origin rs shared
    × (text ≡ records_text pointers ++ shared_lines shared)) × (findings ≡ Absent)

-- The origin of a zone that was read.
use Rattle.std.proofs.Common.{◌≡◌, ap, sym, ℕ, List, Option, Some, None, Result, Ok, Err, subst, true≢false}
use Rattle.std.specs.Result.{is_ok}
use Rattle.dns_data.specs.declared.record.Record.{Record}
use Rattle.dns_master.specs.Files.{file_of}
use Rattle.dns_master.specs.declared.master_fault.MasterFault.{MasterFault}
use Rattle.zone_core.specs.declared.faults.ZoneFault.{ZoneFault}
use Rattle.zone_core.specs.Sets.{Records}
use Rattle.zone_core.specs.Zones.{ZoneOf, built, fault_in, latest, min_rrset_ttls, unless_fault}
use Rattle.cli_core.specs.declared.refusal.Refusal.{Refusal}
use Rattle.cli_core.specs.declared.line_fault.JobFault.{JobFault}
use Rattle.cli_core.specs.LineFaults.{◌>>=◌, of_masters, of_zones}
use Rattle.cli_core.specs.Replies.{Answered}
use Rattle.cli_text.specs.Canon.{zone_of_file}

-- ---- the origin of a zone that was read

module _ (origin : List (List ℕ)) (zone : ZoneOf) where
  of_set : (set : Records) (fault : Option ZoneFault) → of_zones (unless_fault origin set fault) ≡ Ok zone → zone.origin ≡ origin
  of_set set None e = ap (λ r. (or_else r).origin) (sym e)
    where
      or_else : {E : Type 0} → Result ZoneOf E → ZoneOf
      or_else (Ok z) = z
      or_else (Err fault) = zone
  of_set set (Some fault) e = absurd (true≢false (sym (ap is_ok e)))

  of_records : (read : Result (List Record) MasterFault) → (of_masters read >>= λ records. of_zones (built origin records)) ≡ Ok zone → zone.origin ≡ origin
  of_records (Ok records) e = of_set (min_rrset_ttls (latest records)) (fault_in origin (min_rrset_ttls (latest records))) e
  of_records (Err fault) e = absurd (true≢false (sym (ap is_ok e)))

  pub origin_read : (text : List ℕ) → zone_of_file origin text ≡ Ok zone → zone.origin ≡ origin
  origin_read text e = of_records (file_of text origin) e

-- ---- the second file

-- what was answered after a writer that stands as another did
pub answered_behind : (left : Option (List ℕ)) (answer : List ℕ → Result (List ℕ) Refusal) (before old new : Option (List ℕ)) (result done : Result (Unit {0}) JobFault)
    (fine failed : Type 0) (first writes writes_after : ℕ) → old ≡ before → writes ≡ first → result ≡ done → Answered left answer old new result fine failed writes writes_after
    → Answered left answer before new done fine failed first writes_after
answered_behind left answer before old new result done fine failed first writes writes_after same count is answered =
    subst (λ o. Answered left answer o new done fine failed first writes_after) same
    (subst (λ n. Answered left answer old new done fine failed n writes_after) count
    (subst (λ r. Answered left answer old new r fine failed writes writes_after) is answered))

-- When prerequisites are met (RFC 2136 section 2.4), and which is the first that is not (section 3.2.5).
use Rattle.std.specs.Prelude.{◌≡◌, ◌≢◌, ◌↔◌, ◌⊎◌, ℕ, ◌<◌, List, Some, slice_get}
use Rattle.std.specs.List.{AllByRecursion, Contains}
use Rattle.dns_data.specs.declared.record.Record.{Record}
use Rattle.dns_data.specs.declared.rdata.Data.{Data}
use Rattle.dns_data.specs.Rdata.{type_of}
use Rattle.zone_core.specs.declared.prerequisite_code.PrerequisiteCode.{PrerequisiteCode}
use Rattle.zone_core.specs.declared.prerequisite_code.PrerequisiteCode.TheVariants.{NxDomain, YxDomain, NxRrset, YxRrset}
use Rattle.zone_core.specs.declared.update.Prerequisite.{Prerequisite}
use Rattle.zone_core.specs.declared.update.Prerequisite.TheVariants.{RrsetExists, RrsetEquals, RrsetAbsent, NameUsed, NameUnused}
use Rattle.zone_core.specs.declared.verdict.Failed.{Failed}
use Rattle.zone_core.specs.Sets.{Records, IsIn}
use Rattle.zone_core.specs.Zones.{AreKept}
use Rattle.zone_core.specs.Updates.{IsPrerequisite}
use Rattle.zone_core.specs.Prerequisites.{verdict}
use Rattle.zone_core.specs.Accounts.{Stands}

-- a record of a set at a name has these data
abbrev pub HasData : Records → List (List ℕ) → Data → Type 0
HasData set name d = (r : Record) × Stands set name (type_of d) r × (r.rdata ≡ d)

-- What a prerequisite asks of a set of records, beside the others that are given: that a record set exists (section 2.4.1); that
-- its data are exactly those that all prerequisites give for it (section 2.4.2); that it does not exist (section 2.4.3); that a
-- name is in use (section 2.4.4), and that it is not (section 2.4.5).
abbrev pub IsMet : Records → List Prerequisite → Prerequisite → Type 0
IsMet set all (RrsetExists name record_type) = (r : Record) × Stands set name record_type r
IsMet set all (RrsetEquals name rdata) = (d : Data) → type_of d ≡ type_of rdata → HasData set name d ↔ Contains all (RrsetEquals name d)
IsMet set all (RrsetAbsent name record_type) = (r : Record) → ¬ Stands set name record_type r
IsMet set all (NameUsed name) = (r : Record) × IsIn r set × (r.owner ≡ name)
IsMet set all (NameUnused name) = (r : Record) → IsIn r set → r.owner ≢ name

-- all prerequisites are met
abbrev pub AreMet : Records → List Prerequisite → Type 0
AreMet set all = AllByRecursion (IsMet set all) all

-- ---- the first that is not met

-- a test of a set that is given whole (RFC 2136 section 2.4.2)
abbrev pub IsOfWholeSet : Prerequisite → Type 0
IsOfWholeSet (RrsetEquals name rdata) = Unit {0}
IsOfWholeSet p = ⊥

-- One prerequisite is tested before another, by their numbers: tests of sets that are given whole come after all others, and
-- tests of one kind in their order (RFC 2136 section 3.2.5).
abbrev pub IsTestedBefore : Prerequisite → ℕ → Prerequisite → ℕ → Type 0
IsTestedBefore p i q j = (¬ IsOfWholeSet p × IsOfWholeSet q) ⊎ ((IsOfWholeSet p ↔ IsOfWholeSet q) × (i < j))

-- the code of a prerequisite that is not met (RFC 2136 sections 2.4.1 to 2.4.5)
abbrev pub unmet_code : Prerequisite → PrerequisiteCode
unmet_code (RrsetExists name record_type) = NxRrset
unmet_code (RrsetEquals name rdata) = NxRrset
unmet_code (RrsetAbsent name record_type) = YxRrset
unmet_code (NameUsed name) = NxDomain
unmet_code (NameUnused name) = YxDomain

-- A prerequisite is the first that is not met, and fails with its code: all that are tested before it are met (RFC 2136 section
-- 3.2.5).
pub record IsFirstUnmet (set : Records) (all : List Prerequisite) (failed : Failed) : Type 0 where
  pub prerequisite : Prerequisite
  pub at : slice_get all failed.item ≡ Some prerequisite
  pub code : failed.code ≡ unmet_code prerequisite
  pub unmet : ¬ IsMet set all prerequisite
  pub first : (i : ℕ) (p : Prerequisite) → slice_get all i ≡ Some p → IsTestedBefore p i prerequisite failed.item → IsMet set all p

-- a verdict tells the first prerequisite that is not met
abbrev pub VerdictsAreFirst : Type 0
VerdictsAreFirst =
    (set : Records) (all : List Prerequisite) → AreKept set → AllByRecursion IsPrerequisite all
    → (failed : Failed) → (verdict set all ≡ Some failed) ↔ IsFirstUnmet set all failed

-- The part of a zone that an update reads: the records at the names that it tests, and at those that it acts at.
use Rattle.std.specs.Prelude.{◌≡◌, ℕ, List, Bool, true, ◌||◌}
use Rattle.std.specs.List.{list_any}
use Rattle.zone_core.specs.declared.update.Prerequisite.{Prerequisite}
use Rattle.zone_core.specs.declared.update.Operation.{Operation}
use Rattle.zone_core.specs.Sets.{Records, Key, part, minus, at_name}
use Rattle.zone_core.specs.Zones.{ZoneOf, IsZone}
use Rattle.zone_core.specs.Updates.{UpdateOf, IsUpdate, ActsWithin, tested_name, acted_name}
use Rattle.zone_core.specs.Prerequisites.{verdict}
use Rattle.zone_core.specs.Effects.{effects, zone_after}

-- a key of a name that some prerequisite tests
abbrev pub tested : List Prerequisite → Key → Bool
tested ps k = list_any (λ p. at_name (tested_name p) k) ps

-- a key of a name that some operation acts at
abbrev pub touched : List Operation → Key → Bool
touched ops k = list_any (λ op. at_name (acted_name op) k) ops

-- the verdict of prerequisites is that of the records at their names
abbrev pub VerdictsReadTheirNames : Type 0
VerdictsReadTheirNames = (set : Records) (ps : List Prerequisite) → verdict (part set (tested ps)) ps ≡ verdict set ps

-- what operations take away and bring is what they do to the records at their names
abbrev pub OperationsReadTheirNames : Type 0
OperationsReadTheirNames =
    (origin : List (List ℕ)) (set : Records) (ops : List Operation)
    → (minus (part set (touched ops)) (effects origin (part set (touched ops)) ops) ≡ minus set (effects origin set ops))
    × (minus (effects origin (part set (touched ops)) ops) (part set (touched ops)) ≡ minus (effects origin set ops) set)

-- the records of a zone whose keys pass a test
abbrev pub part_of : ZoneOf → (Key → Bool) → ZoneOf
part_of zone test = record zone { records = part zone.records test }

-- the keys at a zone's origin, and at some names
abbrev pub at_names : List (List ℕ) → List (List (List ℕ)) → Key → Bool
at_names origin names k = at_name origin k || list_any (λ name. at_name name k) names

-- a test passes the keys at the origin, and those at the names of an update
abbrev pub Covers : List (List ℕ) → UpdateOf → (Key → Bool) → Type 0
Covers origin update test = (k : Key) → (at_name origin k || (tested update.prerequisites k || touched update.operations k)) ≡ true → test k ≡ true

-- The part is a zone, the verdict in it is that in the zone, and the same records are removed and added.
pub record DoesForZone (whole : ZoneOf) (update : UpdateOf) (test : Key → Bool) : Type 0 where
  pub zone : IsZone (part_of whole test)
  pub verdict : verdict (part whole.records test) update.prerequisites ≡ verdict whole.records update.prerequisites
  pub removed : minus (part whole.records test) (zone_after (part_of whole test) update).records ≡ minus whole.records (zone_after whole update).records
  pub added : minus (zone_after (part_of whole test) update).records (part whole.records test) ≡ minus (zone_after whole update).records whole.records

-- An update needs no other records than those at the origin and at its names.
abbrev pub UpdatesNeedTheirPart : Type 0
UpdatesNeedTheirPart =
    (zone : ZoneOf) (update : UpdateOf) (test : Key → Bool) → IsZone zone → IsUpdate update → ActsWithin zone.origin update → Covers zone.origin update test
    → DoesForZone zone update test

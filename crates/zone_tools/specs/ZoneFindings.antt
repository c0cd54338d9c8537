-- What is found in a zone: the pairs of a record and a rule by which it is at fault.
use Rattle.std.specs.Prelude.{◌≡◌, ◌↔◌, ℕ, ◌+◌, List, [], ◌∷◌, ◌++◌, if◌then◌else◌, Some, slice_get}
use Rattle.std.specs.List.{Contains, flat_map}
use Rattle.std.specs.List.Sorted.{IsStrictlySortedBy}
use Rattle.std.specs.declared.cmp.Ordering.{Ordering}
use Rattle.std.specs.Ordering.{nat_cmp, ordering_then}
use Rattle.dns_names.specs.Labels.{IsWithin}
use Rattle.dns_data.specs.declared.record.Record.{Record}
use Rattle.zone_core.specs.Delegations.{IsCutAt, IsServerOf, HasAddress}
use Rattle.zone_tools.specs.declared.zone_rule.ZoneRule.{ZoneRule}
use Rattle.zone_tools.specs.declared.zone_finding.Finding.{Finding}
use Rattle.zone_tools.specs.ZoneRules.{all_rules, rule_place, IsAtFault}
use Rattle.zone_tools.specs.ZoneTests.{is_at_fault}

-- the order of findings: by the places of the records, and then by those of the rules in the table
abbrev pub finding_order : Finding → Finding → Ordering
finding_order a b = ordering_then (nat_cmp a.place b.place) (nat_cmp (rule_place a.rule) (rule_place b.rule))

-- the findings in a zone: of each place and rule exactly where the record there is at fault by the rule, in order, each once
pub record AreFindings (origin : List (List ℕ)) (rs : List Record) (found : List Finding) : Type 0 where
  pub each : (f : Finding) → Contains found f ↔ ((r : Record) × (slice_get rs f.place ≡ Some r) × IsAtFault f.rule origin rs r)
  pub order : IsStrictlySortedBy finding_order found

-- ---- the same by a definition that computes

-- the finding of a place and a rule, if the record there is at fault by the rule
abbrev pub finding_by : List (List ℕ) → List Record → Record → Finding → List Finding
finding_by origin rs r finding = if is_at_fault finding.rule origin rs r then finding ∷ [] else []

-- the findings of the record at a place, by some of the rules and by all of them
abbrev pub findings_by : List (List ℕ) → List Record → ℕ → Record → List ZoneRule → List Finding
findings_by origin rs place r rules = flat_map (λ rule. finding_by origin rs r (record { place = place; rule = rule })) rules

abbrev pub findings_at : List (List ℕ) → List Record → ℕ → Record → List Finding
findings_at origin rs place r = findings_by origin rs place r all_rules

-- the findings of records from a place on
abbrev pub findings_from : List (List ℕ) → List Record → ℕ → List Record → List Finding
findings_from origin rs place [] = []
findings_from origin rs place (x ∷ xs) = findings_at origin rs place x ++ findings_from origin rs (place + 1) xs

-- ---- what follows

-- in a zone without findings each server of a delegation that is within the child has an address (RFC 1034 section 4.2.1)
abbrev pub CleanZonesHaveGlue : Type 0
CleanZonesHaveGlue =
    (origin : List (List ℕ)) (rs : List Record) → AreFindings origin rs []
    → (child server : List (List ℕ)) → IsCutAt origin rs child → IsServerOf rs child server → IsWithin server child → HasAddress rs server

-- Updates that are tried on a part of a zone.
use Rattle.std.specs.Prelude.{◌≡◌, ℕ, List, [], ◌∷◌, Bool, true, false, Option, Some, None, not, ◌&&◌, ◌||◌, if◌then◌else◌}
use Rattle.std.specs.List.{list_all}
use Rattle.std.specs.List.Sorted.{IsSorted}
use Rattle.dns_names.specs.Labels.{is_within}
use Rattle.dns_names.specs.Order.{canonical_cmp}
use Rattle.dns_data.specs.declared.record.Record.{Record}
use Rattle.dns_data.specs.declared.rdata.Data.{Data}
use Rattle.dns_data.specs.declared.rdata.Data.TheVariants as variants
use Rattle.dns_data.specs.Rdata.{type_of}
use Rattle.grant_policy.specs.declared.action.Action.TheVariants as action
use Rattle.grant_policy.specs.declared.rule.Rule.{Rule}
use Rattle.zone_core.specs.declared.update.Operation.{Operation}
use Rattle.zone_core.specs.declared.update.Operation.TheVariants.{Add, DeleteRrset, DeleteName, DeleteRecord}
use Rattle.zone_core.specs.Sets.{listing, part, within}
use Rattle.zone_core.specs.Zones.{ZoneOf}
use Rattle.zone_core.specs.Updates.{UpdateOf, IsUpdate, ActsWithin, acted_name}
use Rattle.zone_core.specs.Effects.{zone_after}
use Rattle.zone_core.specs.Parts.{part_of, at_names}
use Rattle.zone_answers.specs.Answers.{Name, asterisk}
use Rattle.zone_answers.specs.AnswerTests.{is_there}
use Rattle.answer_reach.specs.declared.trial.Trial.{Trial}
use Rattle.answer_reach.specs.Turns.{may}
use Rattle.answer_reach.specs.ReachTests.{has_name, is_long}

-- ---- updates that are tried

-- whether an operation is permitted; the deletion of a name, which no example has, counts as none
abbrev pub permits : List Rule → List ℕ → Name → Operation → Bool
permits rules caller origin (Add r) = may rules caller origin action.Add r.owner (type_of r.rdata)
permits rules caller origin (DeleteRrset name record_type) = may rules caller origin action.Delete name record_type
permits rules caller origin (DeleteName name) = false
permits rules caller origin (DeleteRecord name rdata) = may rules caller origin action.Delete name (type_of rdata)

-- an update that is permitted, has no prerequisites, and acts at some names only
pub record IsTried (rules : List Rule) (caller : List ℕ) (origin : Name) (covered : List Name) (update : UpdateOf) : Type 0 where
  pub is : IsUpdate update
  pub within : ActsWithin origin update
  pub unconditional : update.prerequisites ≡ []
  pub permitted : list_all (permits rules caller origin) update.operations ≡ true
  pub covers : list_all (λ op. has_name covered (acted_name op)) update.operations ≡ true

-- such an update, and what it makes of the part of the zone that is at the names
pub record IsTrial (rules : List Rule) (caller : List ℕ) (zone : ZoneOf) (trial : Trial) : Type 0 where
  pub order : IsSorted canonical_cmp trial.covered.items
  pub tried : IsTried rules caller zone.origin trial.covered.items trial.update
  pub after : trial.after ≡ zone_after (part_of zone (at_names zone.origin trial.covered.items)) trial.update

-- ---- what the part tells

module _ (zone : ZoneOf) (trial : Trial) where
  -- whether the part after the update has the records at a name that the zone after it has, and tells whether the name exists in that
  abbrev pub agrees : Name → Bool
  agrees name =
      has_name trial.covered.items name
      && (is_there (listing trial.after.records) name || list_all (λ r. has_name trial.covered.items r.owner) (listing (part zone.records (within name))))

  -- the same of a name and the wildcard below it
  abbrev pub both_agree : Name → Bool
  both_agree name = agrees name && (if is_long name then false else agrees (asterisk ∷ name))

  -- the same of all names from one up to the origin
  abbrev pub is_whole_at : Name → Bool
  is_whole_at [] = not (is_within [] zone.origin) || both_agree []
  is_whole_at (label ∷ labels) = not (is_within (label ∷ labels) zone.origin) || (both_agree (label ∷ labels) && is_whole_at labels)

-- whether the data of a record name no server, or one of some names
abbrev pub is_server_covered : List Name → Data → Bool
is_server_covered covered (variants.Ns server) = has_name covered server
is_server_covered covered rdata = true

abbrev pub covers_servers : List Name → List Record → Bool
covers_servers covered rs = list_all (λ r. is_server_covered covered r.rdata) rs

-- ---- answers that differ

-- the time for which negative answers are cached, of SOA data (RFC 2308 section 5)
abbrev pub minimum_in : Data → Option ℕ
minimum_in (variants.Soa soa) = Some soa.minimum.0
minimum_in rdata = None

-- Examples of how a caller changes what is answered: an update that a policy permits it, after which a question is answered otherwise.
use Rattle.std.specs.Prelude.{◌≡◌, ℕ, List, []}
use Rattle.std.specs.List.{Contains}
use Rattle.grant_policy.specs.declared.rule.Rule.{Rule}
use Rattle.zone_core.specs.Sets.{listing}
use Rattle.zone_core.specs.Zones.{ZoneOf}
use Rattle.zone_core.specs.Updates.{UpdateOf}
use Rattle.zone_core.specs.Effects.{zone_after}
use Rattle.zone_answers.specs.declared.query_type.QueryType.{QueryType}
use Rattle.zone_answers.specs.Answers.{Name}
use Rattle.zone_answers.specs.AnswerChanges.{Differs}
use Rattle.answer_reach.specs.declared.reached.ReachedAnswers.{ReachedAnswers}
use Rattle.answer_reach.specs.declared.example.Example.{Example}
use Rattle.answer_reach.specs.Turns.{IsPermitted}
use Rattle.answer_reach.specs.ReachedGroups.{IsIn}

-- a policy, a caller, and a zone that it may update
pub record SearchOf : Type 0 where
  pub rules : List Rule
  pub caller : List ℕ
  pub zone : ZoneOf

-- An update is an example for a question: the policy permits it; it has no prerequisites, so that it is made; and the zone after it
-- answers the question otherwise, the serial of an SOA in the authority section aside (RFC 2136 section 3.4).
pub record IsExample (of : SearchOf) (name : Name) (asked : QueryType) (update : UpdateOf) : Type 0 where
  pub permitted : IsPermitted of.rules of.caller of.zone.origin update
  pub unconditional : update.prerequisites ≡ []
  pub changes : Differs of.zone.origin (listing of.zone.records) (listing (zone_after of.zone update).records) name asked

-- it is one for a question of a row
pub record IsExampleOf (of : SearchOf) (row : ReachedAnswers) (example : Example) : Type 0 where
  pub name : IsIn of.rules (listing of.zone.records) row.names example.name
  pub type : Contains row.types.items example.asked
  pub is : IsExample of example.name example.asked example.update

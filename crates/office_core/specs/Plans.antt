-- What the office would answer to an update of a zone.
use Rattle.std.specs.Prelude.{◌≡◌, ℕ, List, ◌++◌, Option, Some, None, option_map}
use Rattle.std.specs.Option.{option_to_list}
use Rattle.grant_policy.specs.declared.rule.Rule.{Rule}
use Rattle.zone_core.specs.Zones.{ZoneOf}
use Rattle.zone_core.specs.Updates.{UpdateOf}
use Rattle.zone_core.specs.Changes.{ChangeOf}
use Rattle.office_model.specs.declared.request.Request.TheVariants as requests
use Rattle.office_model.specs.declared.reply.UpdateReply.{UpdateReply}
use Rattle.office_model.specs.Replies.{to_update}
use Rattle.office_model.specs.States.{State, zone_at, changes_at}
use Rattle.office_core.specs.Machine.{Turn, step}

-- a turn replies so to an update of the zone of an origin, and notes this change after the changes that there were
pub record IsPlanned (s : State) (origin : List (List ℕ)) (reply : UpdateReply) (change : Option ChangeOf) (turn : Turn) : Type 0 where
  pub replied : turn.reply ≡ to_update reply
  pub noted : changes_at turn.after origin ≡ option_map (λ cs. cs ++ option_to_list change) (changes_at s origin)

-- in each state that holds the zone, and no receipt of the caller under an identifier, the update under it has such a turn
abbrev pub Plans : List Rule → List ℕ → ZoneOf → UpdateOf → UpdateReply → Option ChangeOf → Type 0
Plans rules caller zone update reply change =
    (s : State) (id : List ℕ) → zone_at s zone.origin ≡ Some zone → s.receipts caller id ≡ None
    → IsPlanned s zone.origin reply change (step rules s caller (requests.Update zone.origin id update))

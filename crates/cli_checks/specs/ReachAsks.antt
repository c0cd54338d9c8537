-- What the search for reached answers asks a policy about an update, and what the office asks.
use Rattle.std.specs.Prelude.{◌≡◌, ℕ, List, []}
use Rattle.grant_policy.specs.declared.rule.Rule.{Rule}
use Rattle.zone_core.specs.Updates.{UpdateOf, IsUpdate, ActsWithin}
use Rattle.office_core.specs.Permissions as office
use Rattle.answer_reach.specs.Turns as reach

-- an update of names within the zone that the office permits is one by which a caller is counted to reach answers
abbrev pub PermittedUpdatesCount : Type 0
PermittedUpdatesCount =
    (rules : List Rule) (caller : List ℕ) (origin : List (List ℕ)) (update : UpdateOf) → IsUpdate update → ActsWithin origin update
    → office.IsPermitted rules caller origin update → reach.IsPermitted rules caller origin update

-- and one that counts, and has no prerequisites, the office permits
abbrev pub CountedUpdatesArePermitted : Type 0
CountedUpdatesArePermitted =
    (rules : List Rule) (caller : List ℕ) (origin : List (List ℕ)) (update : UpdateOf) → update.prerequisites ≡ []
    → reach.IsPermitted rules caller origin update → office.IsPermitted rules caller origin update

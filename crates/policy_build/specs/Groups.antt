-- Groups.
use Rattle.std.specs.Prelude.{ℕ, List}
use Rattle.policy_build.specs.declared.member.Member.{Member}
use Rattle.policy_build.specs.declared.place.Place.{Place}

-- a group, with its members in order
pub record GroupOf (X : Type 0) : Type 0 where
  pub place : Place
  pub id : List ℕ
  pub members : List (Member X)

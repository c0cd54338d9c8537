-- What entries grant a caller, and what they grant others.
use Rattle.std.specs.Prelude.{◌≡◌, ◌≢◌, ℕ, ◌<◌, List, take, Bool, true, false, Some, slice_get, bytes_eq}
use Rattle.std.specs.List.{list_any}
use Rattle.grant_policy.specs.declared.callers.Callers.{Callers}
use Rattle.grant_policy.specs.declared.callers.Callers.TheVariants.{Every, One}
use Rattle.policy_tools.specs.declared.claims.Entry.{Entry}
use Rattle.grant_policy.specs.declared.effect.Effect.TheVariants.{Grant}
use Rattle.policy_tools.specs.declared.exposure.Right.{Right}
use Rattle.policy_tools.specs.declared.wanted.Wanted.{Wanted}
use Rattle.policy_tools.specs.declared.wanted.Wanted.TheVariants.{Changes}
use Rattle.policy_tools.specs.Wanted.{wants}
use Rattle.policy_tools.specs.Points.{has_point}
use Rattle.policy_tools.specs.Taking.{includes}
use Rattle.policy_tools.specs.Claims.{is_decided}

-- a right is looked for
abbrev pub IsWanted : Wanted → Right → Type 0
IsWanted wanted right = wants wanted right.record_type right.action ≡ true

-- ---- grants

-- the rule of an entry grants a pair of two sets
pub record IsGrant (e : Entry) (own wanted : ℕ) (right : Right) : Type 0 where
  pub grants : e.claim.rule.now.effect ≡ Grant
  pub in_own : has_point own right.record_type right.action ≡ true
  pub in_wanted : has_point wanted right.record_type right.action ≡ true
  pub number : e.number ≡ right.rule

-- the rule of an entry grants a pair to all these callers, after entries that decided others
pub record GrantsBehind (callers : Callers) (before : List Entry) (e : Entry) (right : Right) : Type 0 where
  pub includes : includes e.claim.rule.now.callers callers ≡ true
  pub grants : e.claim.rule.now.effect ≡ Grant
  pub own : has_point e.claim.points.bits right.record_type right.action ≡ true
  pub undecided : is_decided before callers right.record_type right.action ≡ false
  pub number : e.number ≡ right.rule

-- one of the first n entries does
pub record GrantsAmong (callers : Callers) (entries : List Entry) (n : ℕ) (right : Right) : Type 0 where
  pub place : ℕ
  pub below : place < n
  pub entry : Entry
  pub at : slice_get entries place ≡ Some entry
  pub grants : GrantsBehind callers (take place entries) entry right

-- whether a list has the caller of whom alone a rule speaks
abbrev pub are_listed : List (List ℕ) → Callers → Bool
are_listed listed Every = false
are_listed listed (One identifier) = list_any (λ other. bytes_eq other identifier) listed

-- the rule of an entry grants one of some pairs to others than those of a list
pub record GrantsUnlisted (listed : List (List ℕ)) (wanted : ℕ) (e : Entry) (right : Right) : Type 0 where
  pub unlisted : are_listed listed e.claim.rule.now.callers ≡ false
  pub grant : IsGrant e e.left.bits wanted right

-- the rule of an entry grants others than the caller a change of records
pub record GrantsOthers (caller : List ℕ) (e : Entry) (right : Right) : Type 0 where
  pub others : e.claim.rule.now.callers ≢ One caller
  pub grants : e.claim.rule.now.effect ≡ Grant
  pub left : has_point e.left.bits right.record_type right.action ≡ true
  pub wanted : IsWanted Changes right
  pub number : e.number ≡ right.rule

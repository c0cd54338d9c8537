-- What a policy grants at a name: to each caller that has other rights there than callers that no rule names, and to all others.
use Rattle.std.specs.Prelude.{◌≡◌, ◌↔◌, ◌⊎◌, ℕ, List, [], ◌∷◌, ◌++◌, map, take, length, filter, Bool, true, false, ◌&&◌, if◌then◌else◌, bytes_eq}
use Rattle.std.specs.List.{All, AllPairs, Contains}
use Rattle.dns_data.specs.declared.record_type.RecordType.{RecordType}
use Rattle.grant_policy.specs.declared.action.Action.{Action}
use Rattle.grant_policy.specs.declared.callers.Callers.{Callers}
use Rattle.grant_policy.specs.declared.callers.Callers.TheVariants.{Every, One}
use Rattle.policy_tools.specs.declared.claims.Claim.{Claim}
use Rattle.grant_policy.specs.declared.effect.Effect.{Effect}
use Rattle.grant_policy.specs.declared.effect.Effect.TheVariants.{Grant, Deny}
use Rattle.policy_tools.specs.declared.name_rights.CallerRights.{CallerRights}
use Rattle.policy_tools.specs.declared.name_rights.NameRights.{NameRights}
use Rattle.grant_policy.specs.declared.rule.Rule.{Rule}
use Rattle.grant_policy.specs.Scopes.{covers}
use Rattle.policy_tools.specs.Points.{has_point, Differ}
use Rattle.policy_tools.specs.Taking.{includes}
use Rattle.policy_tools.specs.Claims.{rules_of}
use Rattle.grant_policy.specs.Isolated.{IsGranted}

-- the rules that cover a name, in order
abbrev pub rules_at : List Rule → List (List ℕ) → List Rule
rules_at rules name = filter (λ rule. covers rule.scope rule.at name) rules

-- one of the rules names the caller
abbrev pub IsNamedIn : List Rule → List ℕ → Type 0
IsNamedIn rules caller = Contains (map (λ rule. rule.callers) rules) (One caller)

-- the rules name one caller before another: some first rules name the one, and not the other
pub record IsNamedBefore (rules : List Rule) (caller other : List ℕ) : Type 0 where
  pub upto : ℕ
  pub named : IsNamedIn (take upto rules) caller
  pub unnamed : ¬ IsNamedIn (take upto rules) other

-- what rows by callers list of one: what its own row has, or what all others have
abbrev pub listed_in : {R V : Type 0} → (R → List ℕ) → (R → V) → List R → V → List ℕ → V
listed_in caller_of value_of [] others caller = others
listed_in caller_of value_of (row ∷ rows) others caller = if bytes_eq (caller_of row) caller then value_of row else listed_in caller_of value_of rows others caller

-- the rights that are listed of a caller
abbrev pub listed_of : List CallerRights → ℕ → List ℕ → ℕ
listed_of rows others caller = listed_in (λ (row : CallerRights). row.caller) (λ (row : CallerRights). row.rights) rows others caller

-- The rights at a name. What is listed of each caller is exactly what is granted to it there; a caller has a row of its own only where
-- it has other rights than all others; and rows are in the order in which the rules that cover the name first name their callers.
pub record AreRightsAt (rules : List Rule) (name : List (List ℕ)) (rights : NameRights) : Type 0 where
  pub granted : (caller : List ℕ) (t : RecordType) (a : Action) → (has_point (listed_of rights.named.items rights.others caller) t a ≡ true) ↔ IsGranted rules caller name t a
  pub apart : All (λ row. Differ row.rights rights.others) rights.named.items
  pub named : All (λ row. IsNamedIn (rules_at rules name) row.caller) rights.named.items
  pub ordered : AllPairs (λ x y. IsNamedBefore (rules_at rules name) x.caller y.caller) rights.named.items

-- no caller has a row, and all have no rights
pub record HasNoRights (rights : NameRights) : Type 0 where
  pub named : rights.named.items ≡ []
  pub others : (t : RecordType) (a : Action) → has_point rights.others t a ≡ false

-- ---- by claims

-- the claims whose rules cover a name, in order
abbrev pub claims_at : List Claim → List (List ℕ) → List Claim
claims_at claims name = filter (λ c. covers c.rule.now.scope c.rule.now.at name) claims

abbrev pub does_grant : Effect → Bool
does_grant Grant = true
does_grant Deny = false

-- whether the first of the claims that speaks of a pair to all these callers grants it
abbrev pub grants_to : List Claim → Callers → RecordType → Action → Bool
grants_to [] callers t a = false
grants_to (c ∷ cs) callers t a =
    if (includes c.rule.now.callers callers && has_point c.points.bits t a) then does_grant c.rule.now.effect else grants_to cs callers t a

-- the pairs of a set are those that are granted to these callers
abbrev pub HasGrants : List Claim → Callers → ℕ → Type 0
HasGrants claims callers bits = (t : RecordType) (a : Action) → has_point bits t a ≡ grants_to claims callers t a

-- a caller has a row
abbrev pub IsListed : List CallerRights → List ℕ → Type 0
IsListed rows caller = Contains (map (λ row. row.caller) rows) caller

-- a caller needs no row, since it has one, or has the rights of all others
abbrev pub NeedsNoRow : List Claim → ℕ → List CallerRights → Callers → Type 0
NeedsNoRow claims others rows Every = Unit {0}
NeedsNoRow claims others rows (One caller) = IsListed rows caller ⊎ HasGrants claims (One caller) others

-- a row of a caller that has none
pub record IsNewRow (claims : List Claim) (others : ℕ) (rows : List CallerRights) (callers : Callers) (row : CallerRights) : Type 0 where
  pub caller : callers ≡ One row.caller
  pub rights : HasGrants claims (One row.caller) row.rights
  pub apart : Differ row.rights others
  pub fresh : ¬ IsListed rows row.caller

-- the row of a caller is added, if it needs one
abbrev pub AddsRow : List Claim → ℕ → Callers → List CallerRights → List CallerRights → Type 0
AddsRow claims others callers old new =
    ((new ≡ old) × NeedsNoRow claims others old callers)
    ⊎ ((row : CallerRights) × (new ≡ old ++ row ∷ []) × IsNewRow claims others old callers row)

-- the rows of the callers of the first n claims
pub record AreRows (claims : List Claim) (others n : ℕ) (rows : List CallerRights) : Type 0 where
  pub rights : All (λ row. HasGrants claims (One row.caller) row.rights) rows
  pub apart : All (λ row. Differ row.rights others) rows
  pub named : All (λ row. IsNamedIn (take n (rules_of claims)) row.caller) rows
  pub seen : (caller : List ℕ) → IsNamedIn (take n (rules_of claims)) caller → IsListed rows caller ⊎ HasGrants claims (One caller) others
  pub ordered : AllPairs (λ x y. IsNamedBefore (rules_of claims) x.caller y.caller) rows

-- the rights by claims whose rules all cover a name
pub record AreListed (claims : List Claim) (rights : NameRights) : Type 0 where
  pub others : HasGrants claims Every rights.others
  pub rows : AreRows claims rights.others (length claims) rights.named.items

-- The rules that cover a name, with what each decides there.
use Rattle.std.specs.Prelude.{◌≡◌, ◌↔◌, ℕ, ◌<◌, List, map, take, length, Bool, true, false, ◌&&◌, not, Some, slice_get}
use Rattle.std.specs.List.{All, Contains, list_any}
use Rattle.std.specs.List.Sorted.{IsStrictlyIncreasing}
use Rattle.dns_data.specs.declared.record_type.RecordType.{RecordType}
use Rattle.grant_policy.specs.declared.action.Action.{Action}
use Rattle.grant_policy.specs.declared.callers.Callers.{Callers}
use Rattle.grant_policy.specs.declared.rule.Rule.{Rule}
use Rattle.grant_policy.specs.Scopes.{covers}
use Rattle.policy_tools.specs.declared.claims.Claim.{Claim}
use Rattle.policy_tools.specs.declared.claims.Entry.{Entry}
use Rattle.policy_tools.specs.declared.claims.Coverage.{Coverage}
use Rattle.policy_tools.specs.Points.{has_point, names_point}
use Rattle.policy_tools.specs.Taking.{AreCallers, shared_of, includes, speaks}

-- the numbers below n of which P is true, in order
pub record AreBelow (P : ℕ → Type 0) (n : ℕ) (xs : List ℕ) : Type 0 where
  pub each : (k : ℕ) → Contains xs k ↔ ((k < n) × P k)
  pub ordered : IsStrictlyIncreasing xs

-- the pairs of which the rule speaks
abbrev pub HasPairs : Claim → Type 0
HasPairs c = (t : RecordType) (a : Action) → has_point c.points.bits t a ≡ names_point c.rule.now t a

-- the rules of claims
abbrev pub rules_of : List Claim → List Rule
rules_of claims = map (λ c. c.rule.now) claims

-- a claim has its pairs, and names its caller by an identifier
abbrev pub IsClaim : Claim → Type 0
IsClaim c = HasPairs c × AreCallers c.rule.now.callers

-- some of the rules speaks of a pair at a name, to all these callers
abbrev pub is_taken : List Rule → List (List ℕ) → Callers → RecordType → Action → Bool
is_taken rules name callers t a = list_any (λ r. includes r.callers callers && speaks r name t a) rules

-- the same of entries of a row
abbrev pub is_decided : List Entry → Callers → RecordType → Action → Bool
is_decided entries callers t a = list_any (λ e. includes e.claim.rule.now.callers callers && has_point e.claim.points.bits t a) entries

-- the rule of this place covers the name
abbrev pub CoversAt : List Rule → List (List ℕ) → ℕ → Type 0
CoversAt rules name j = (rule : Rule) × (slice_get rules j ≡ Some rule) × (covers rule.scope rule.at name ≡ true)

-- an entry is of the rule of its place, and what is left to it is what no rule before takes from all its callers
pub record IsEntry (rules : List Rule) (name : List (List ℕ)) (e : Entry) : Type 0 where
  pub rule : slice_get rules e.number ≡ Some e.claim.rule.now
  pub pairs : HasPairs e.claim
  pub left : (t : RecordType) (a : Action) → has_point e.left.bits t a ≡ (names_point e.claim.rule.now t a && not (is_taken (take e.number rules) name e.claim.rule.now.callers t a))

-- the entries of the first n rules at a name
pub record AreEntries (rules : List Rule) (name : List (List ℕ)) (n : ℕ) (entries : List Entry) : Type 0 where
  pub numbers : AreBelow (CoversAt rules name) n (map (λ e. e.number) entries)
  pub each : All (IsEntry rules name) entries

-- a row has the entries of all rules at its name
abbrev pub IsRow : List Rule → Coverage → Type 0
IsRow rules row = AreEntries rules row.name.now (length rules) row.entries.items

-- ---- taking

-- the rule of an entry takes a pair from some callers of a rule, after entries that took others
pub record TakesBehind (c : Claim) (before : List Entry) (e : Entry) : Type 0 where
  pub record_type : RecordType
  pub action : Action
  pub callers : Callers
  pub own : has_point c.points.bits record_type action ≡ true
  pub left : has_point e.left.bits record_type action ≡ true
  pub undecided : is_decided before c.rule.now.callers record_type action ≡ false
  pub shared : shared_of c.rule.now.callers e.claim.rule.now.callers ≡ Some callers

-- the rule of place j does, among the first n entries
pub record Hits (c : Claim) (entries : List Entry) (n j : ℕ) : Type 0 where
  pub place : ℕ
  pub below : place < n
  pub entry : Entry
  pub at : slice_get entries place ≡ Some entry
  pub number : entry.number ≡ j
  pub takes : TakesBehind c (take place entries) entry

-- the same in one of the rows that have the rule
pub record TakesIn (c : Claim) (i : ℕ) (rows : List Coverage) (j : ℕ) : Type 0 where
  pub row : Coverage
  pub among : Contains rows row
  pub own : Contains (map (λ e. e.number) row.entries.items) i
  pub hits : Hits c row.entries.items (length row.entries.items) j

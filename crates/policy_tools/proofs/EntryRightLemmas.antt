-- What entries grant, one entry after the other.
use Rattle.std.proofs.Common.{◌≡◌, ◌⊎◌, inl, inr, ℕ, ◌+◌, ◌<◌, ◌≤◌, true, false, ◌&&◌, not, List, [], ◌∷◌, ◌++◌, length, get_or, take, Some, sym, ap, ◌∙◌, subst, ⊎_elim, arith}
use Rattle.std.specs.Prelude.{slice_get}
use Rattle.std.specs.List.{Contains}
use Rattle.std.proofs.lemmas.Bool.{cases_lt, both_ways, and_from, not-true, not_from_false}
use Rattle.std.proofs.lemmas.List.{take_more}
use Rattle.std.proofs.lemmas.List.Elements.{Contains-push_cases}
use Rattle.dns_data.specs.declared.record_type.RecordType.{RecordType}
use Rattle.grant_policy.specs.declared.action.Action.{Action}
use Rattle.grant_policy.specs.declared.callers.Callers.{Callers}
use Rattle.grant_policy.specs.declared.callers.Callers.TheVariants.{One}
use Rattle.policy_tools.specs.declared.claims.Entry.{Entry}
use Rattle.policy_tools.specs.declared.exposure.Right.{Right}
use Rattle.policy_tools.specs.declared.wanted.Wanted.{Wanted}
use Rattle.policy_tools.specs.declared.wanted.Wanted.TheVariants.{Changes}
use Rattle.policy_tools.specs.Points.{has_point}
use Rattle.policy_tools.specs.Taking.{includes}
use Rattle.policy_tools.specs.Claims.{is_decided}
use Rattle.policy_tools.specs.Wanted.{wants}
use Rattle.policy_tools.specs.EntryRights.{IsWanted, IsGrant, GrantsBehind, GrantsAmong, GrantsOthers}
use Rattle.grant_policy.proofs.DecisionLaws.{same_Some}
use Rattle.policy_tools.proofs.TakeLemmas.{fst, snd}

-- ---- to the caller

-- the pairs of one set without those of another
abbrev pub AreWithout : ℕ → ℕ → ℕ → Type 0
AreWithout all gone rest = (t : RecordType) (a : Action) → has_point rest t a ≡ (has_point all t a && not (has_point gone t a))

abbrev pub AreDecided : Callers → List Entry → ℕ → Type 0
AreDecided callers before bits = (t : RecordType) (a : Action) → has_point bits t a ≡ is_decided before callers t a

abbrev pub AreWanted : Wanted → ℕ → Type 0
AreWanted wanted bits = (t : RecordType) (a : Action) → has_point bits t a ≡ wants wanted t a

pub behind : (callers : Callers) (before : List Entry) (e : Entry) (gone own looked_for : ℕ) (right : Right) → includes e.claim.rule.now.callers callers ≡ true → AreWithout e.claim.points.bits gone own → AreDecided callers before gone → IsGrant e own looked_for right → GrantsBehind callers before e right
behind callers before e gone own looked_for right of without decided g =
    let t = right.record_type in
    let a = right.action in
    let both = sym (without t a) ∙ g.in_own in
    record {
      includes = of;
      grants = g.grants;
      own = fst (has_point e.claim.points.bits t a) (not (has_point gone t a)) both;
      undecided = sym (decided t a) ∙ not-true (has_point gone t a) (snd (has_point e.claim.points.bits t a) (not (has_point gone t a)) both);
      number = g.number;
    }

pub behind_back : (callers : Callers) (before : List Entry) (e : Entry) (gone own looked_for : ℕ) (wanted : Wanted) (right : Right) → AreWithout e.claim.points.bits gone own → AreDecided callers before gone → AreWanted wanted looked_for → IsWanted wanted right → GrantsBehind callers before e right → IsGrant e own looked_for right
behind_back callers before e gone own looked_for wanted right without decided are is g =
    let t = right.record_type in
    let a = right.action in
    record {
      grants = g.grants;
      in_own = without t a ∙ and_from (has_point e.claim.points.bits t a) (not (has_point gone t a)) g.own (not_from_false (has_point gone t a) (decided t a ∙ g.undecided));
      in_wanted = are t a ∙ is;
      number = g.number;
    }

pub among_here : (callers : Callers) (entries : List Entry) (n : ℕ) (e : Entry) (right : Right) → slice_get entries n ≡ Some e → n < length entries → GrantsBehind callers (take n entries) e right → GrantsAmong callers entries (length entries) right
among_here callers entries n e right at lt g = record { place = n; below = lt; entry = e; at = at; grants = g }

among_split : (callers : Callers) (entries : List Entry) (n : ℕ) (e : Entry) (right : Right) → slice_get entries n ≡ Some e → GrantsAmong callers entries (n + 1) right → GrantsAmong callers entries n right ⊎ GrantsBehind callers (take n entries) e right
among_split callers entries n e right at g =
    ⊎_elim
    (λ (lt : g.place < n). inl (record { place = g.place; below = lt; entry = g.entry; at = g.at; grants = g.grants }))
    (λ (le : n ≤ g.place).
    let same : g.place ≡ n = omega (arith, le, g.below) in
    let entry : g.entry ≡ e = same_Some g.entry e (sym g.at ∙ ap (λ (k : ℕ). slice_get entries k) same ∙ at) in
    inr (subst (λ (x : Entry). GrantsBehind callers (take n entries) x right) entry (subst (λ (k : ℕ). GrantsBehind callers (take k entries) g.entry right) same g.grants)))
    (cases_lt g.place n)

-- none of the first n entries grants what is looked for
abbrev pub NoneAmong : Callers → List Entry → Wanted → ℕ → Type 0
NoneAmong callers entries wanted n = (right : Right) → IsWanted wanted right → ¬ GrantsAmong callers entries n right

pub none_first : (callers : Callers) (entries : List Entry) (wanted : Wanted) → NoneAmong callers entries wanted 0
none_first callers entries wanted right is g = omega (arith, g.below)

pub none_more : (callers : Callers) (entries : List Entry) (wanted : Wanted) (n : ℕ) (e : Entry) → slice_get entries n ≡ Some e → ((right : Right) → IsWanted wanted right → ¬ GrantsBehind callers (take n entries) e right) → NoneAmong callers entries wanted n → NoneAmong callers entries wanted (n + 1)
none_more callers entries wanted n e at here none right is g = ⊎_elim (none right is) (here right is) (among_split callers entries n e right at g)

pub not_included : (callers : Callers) (before : List Entry) (e : Entry) (right : Right) → includes e.claim.rule.now.callers callers ≡ false → ¬ GrantsBehind callers before e right
not_included callers before e right no' g = both_ways (includes e.claim.rule.now.callers callers) no' g.includes

-- ---- to others

-- none of these entries grants others a change
abbrev pub NoneToOthers : List ℕ → List Entry → Type 0
NoneToOthers caller entries = (e : Entry) (right : Right) → Contains entries e → ¬ GrantsOthers caller e right

pub others_more : (caller : List ℕ) (entries : List Entry) (n : ℕ) (e : Entry) → n < length entries → e ≡ get_or entries n e → ((right : Right) → ¬ GrantsOthers caller e right) → NoneToOthers caller (take n entries) → NoneToOthers caller (take (n + 1) entries)
others_more caller entries n e lt is here none x right in' g =
    let more : take (n + 1) entries ≡ take n entries ++ e ∷ [] = take_more entries n e lt ∙ ap (λ (y : Entry). take n entries ++ y ∷ []) (sym is) in
    ⊎_elim
    (λ (old : Contains (take n entries) x). none x right old g)
    (λ (new : e ≡ x). here right (subst (λ (y : Entry). GrantsOthers caller y right) (sym new) g))
    (Contains-push_cases (take n entries) e x (subst (λ (l : List Entry). Contains l x) more in'))

pub others_grant : (caller : List ℕ) (e : Entry) (looked_for : ℕ) (right : Right) → AreWanted Changes looked_for → GrantsOthers caller e right → IsGrant e e.left.bits looked_for right
others_grant caller e looked_for right are g = record { grants = g.grants; in_own = g.left; in_wanted = are right.record_type right.action ∙ g.wanted; number = g.number }

pub grant_others : (caller : List ℕ) (e : Entry) (looked_for : ℕ) (right : Right) → AreWanted Changes looked_for → ¬ (e.claim.rule.now.callers ≡ One caller) → IsGrant e e.left.bits looked_for right → GrantsOthers caller e right
grant_others caller e looked_for right are others g = record { others = others; grants = g.grants; left = g.in_own; wanted = sym (are right.record_type right.action) ∙ g.in_wanted; number = g.number }

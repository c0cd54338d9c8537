-- What a caller may not list, by the rights at names that represent those of a zone.
use Rattle.std.proofs.Common.{◌≡◌, ◌↔◌, ◌⊎◌, inl, inr, ℕ, zero, suc, ◌<◌, Bool, true, false, not, cond, List, [], ◌∷◌, length, get_or, Option, Some, None, Result, Ok, Err, IfOk, refl, sym, ap, ◌∙◌, subst, arith}
use Rattle.std.specs.Prelude.{MatchOption}
use Rattle.std.specs.List.{Contains, find}
use Rattle.std.proofs.lemmas.Bool.{cases_Bool, false≢true, not-true}
use Rattle.std.proofs.lemmas.List.{get_or_default}
use Rattle.dns_names.specs.Labels.{IsName, IsWithin, is_within}
use Rattle.dns_data.specs.declared.record_type.RecordType.{RecordType}
use Rattle.dns_data.specs.Types.{kept_types}
use Rattle.dns_data.proofs.KeptLaws.{each_kept}
use Rattle.dns_data.proofs.WordLemmas.{found_passes}
use Rattle.grant_policy.specs.declared.action.Action.TheVariants as action
use Rattle.grant_policy.specs.declared.rule.Rule.{Rule}
use Rattle.grant_policy.specs.declared.scope.Scope.{Scope}
use Rattle.grant_policy.specs.declared.scope.Scope.TheVariants.{Subtree}
use Rattle.grant_policy.specs.Scopes.{Covers}
use Rattle.grant_policy.proofs.ScopeLemmas.{is_within-Decides}
use Rattle.policy_tools.specs.declared.expectation.Limit.{Limit}
use Rattle.policy_tools.specs.declared.name_rights.NameRights.{NameRights}
use Rattle.policy_tools.specs.declared.readers.Hidden.{Hidden}
use Rattle.policy_tools.specs.Limits.{RepresentLimit}
use Rattle.policy_tools.specs.NameRights.{AreRightsAt, listed_of}
use Rattle.policy_tools.specs.Points.{has_point}
use Rattle.policy_tools.specs.Readers.{MayListWithin, MayListAll, IsHidden, RepresentWithin}
use Rattle.policy_tools.proofs.IsolatedLemmas.{decision_alike}

-- ---- types

find_none : {X : Type 0} (test : X → Bool) (xs : List X) → find test xs ≡ None → (x : X) → Contains xs x → test x ≡ false
find_none test [] e x (k, lt, is) = absurd (omega (arith, lt))
find_none {X} test (y ∷ ys) e x c = by (λ h c'. find_none test ys h x c') (cases_Bool (test y)) c
  where
    some_none : (a : X) → Some a ≡ None → ⊥
    some_none a h = cc

    by : (find test ys ≡ None → Contains ys x → test x ≡ false) → (test y ≡ true) ⊎ (test y ≡ false) → Contains (y ∷ ys) x → test x ≡ false
    by later (inl h) _ = absurd (some_none y (sym (ap (λ (b : Bool). cond b (Some y) (find test ys)) h) ∙ e))
    by later (inr h) (zero, lt, is) = subst (λ (z : X). test z ≡ false) is h
    by later (inr h) (suc i, lt, is) = later (sym (ap (λ (b : Bool). cond b (Some y) (find test ys)) h) ∙ e) (i, omega (arith, lt), is)

pub hidden_first : (bits : ℕ) (found : Option RecordType) → found ≡ find (λ t. not (has_point bits t action.List)) kept_types → MatchOption found ((t : RecordType) → has_point bits t action.List ≡ true) (λ t. has_point bits t action.List ≡ false)
hidden_first bits None e = λ t. not_false (has_point bits t action.List) (find_none (λ (x : RecordType). not (has_point bits x action.List)) kept_types (sym e) t (each_kept t))
  where
    not_false : (b : Bool) → not b ≡ false → b ≡ true
    not_false true h = refl
    not_false false h = absurd (false≢true (sym h))
hidden_first bits (Some t) e = not-true (has_point bits t action.List) (found_passes (λ (x : RecordType). not (has_point bits x action.List)) kept_types t (sym e))

-- ---- at a name

pub outside_origin : (rules : List Rule) (caller : List ℕ) (origin name : List (List ℕ)) → is_within name origin ≡ false → MayListWithin rules caller origin name
outside_origin rules caller origin name no' w = absurd (false≢true (sym no' ∙ (is_within-Decides name origin).1 w))

pub lists_at : (rules : List Rule) (caller : List ℕ) (origin name : List (List ℕ)) (rights : NameRights) (bits : ℕ) → AreRightsAt rules name rights → bits ≡ listed_of rights.named.items rights.others caller → ((t : RecordType) → has_point bits t action.List ≡ true) → MayListWithin rules caller origin name
lists_at rules caller origin name rights bits are is all w t = (are.granted caller t action.List).0 (ap (λ (n : ℕ). has_point n t action.List) (sym is) ∙ all t)

pub hides_at : (rules : List Rule) (caller : List ℕ) (origin name : List (List ℕ)) (rights : NameRights) (bits : ℕ) (t : RecordType) → AreRightsAt rules name rights → bits ≡ listed_of rights.named.items rights.others caller → IsName name → IsWithin name origin → has_point bits t action.List ≡ false → IsHidden rules caller origin (record { name = name; record_type = t })
hides_at rules caller origin name rights bits t are is valid w no' = record {
  valid = valid;
  within = w;
  denied = λ g. false≢true (sym no' ∙ ap (λ (n : ℕ). has_point n t action.List) is ∙ (are.granted caller t action.List).1 g);
}

-- ---- at all names

pub represent_within : (rules : List Rule) (limit : Limit) (origin : List (List ℕ)) (names' : List (List (List ℕ))) → limit.scope ≡ Subtree → limit.at ≡ origin → RepresentLimit rules limit names' → RepresentWithin rules origin names'
represent_within rules limit origin names' scope at rep = record {
  valid = rep.valid;
  each = λ name is w.
      let r = rep.each name is (subst (λ (s : Scope). Covers s limit.at name) (sym scope) (subst (λ (a : List (List ℕ)). IsWithin name a) (sym at) w)) in
      (r.0, r.1, subst (λ (a : List (List ℕ)). IsWithin r.0 a) at (subst (λ (s : Scope). Covers s limit.at r.0) scope r.2), r.3);
}

pub lists_all : (rules : List Rule) (caller : List ℕ) (origin : List (List ℕ)) (names' : List (List (List ℕ))) → RepresentWithin rules origin names' → ((k : ℕ) → k < length names' → MayListWithin rules caller origin (get_or names' k [])) → MayListAll rules caller origin
lists_all rules caller origin names' all each name is w t =
    let r = all.each name is w in
    let at : get_or names' r.1.0 [] ≡ r.0 = get_or_default names' r.1.0 [] r.0 r.1.1 ∙ r.1.2 in
    let g = subst (λ (n : List (List ℕ)). MayListWithin rules caller origin n) at (each r.1.0 r.1.1) r.2 t in
    (g.0, decision_alike rules caller t action.List name r.0 r.3 ∙ g.1)

hidden_exactly : (rules : List Rule) (caller : List ℕ) (origin : List (List ℕ)) (found : Option Hidden) → MatchOption found (MayListAll rules caller origin) (IsHidden rules caller origin) → (found ≡ None) ↔ MayListAll rules caller origin
hidden_exactly rules caller origin None is = (λ e. is, λ i. refl)
hidden_exactly rules caller origin (Some h) is = (λ none. absurd cc, λ all. absurd (is.denied (all h.name is.valid is.within h.record_type)))

pub exactly_hidden : {E : Type 0} (rules : List Rule) (caller : List ℕ) (origin : List (List ℕ)) (r : Result (Option Hidden) E) → IfOk r (λ found. MatchOption found (MayListAll rules caller origin) (IsHidden rules caller origin)) → IfOk r (λ found. (found ≡ None) ↔ MayListAll rules caller origin)
exactly_hidden rules caller origin (Ok found) is = hidden_exactly rules caller origin found is
exactly_hidden rules caller origin (Err e) is = tt

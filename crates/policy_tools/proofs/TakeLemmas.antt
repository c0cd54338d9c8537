-- When a rule decides what another matches, without a caller and at one name of many.
use Rattle.std.proofs.Common.{◌≡◌, ℕ, ◌<◌, ◌≤◌, Bool, true, false, ◌&&◌, List, length, get_or, take, Some, refl, sym, ◌∙◌, subst, arith, length-take}
use Rattle.std.specs.Prelude.{slice_get}
use Rattle.std.specs.List.{Contains, list_any}
use Rattle.std.proofs.lemmas.Bool.{false≢true, false_from_ne_true, and_parts, and_from}
use Rattle.std.proofs.lemmas.List.{get_or-take}
use Rattle.std.proofs.lemmas.List.Folds.{Any-from_list_any, list_any_at}
use Rattle.std.proofs.lemmas.Option.{slice_get_within, slice_get_read, get_or_from_slice_get}
use Rattle.dns_names.specs.Labels.{IsName}
use Rattle.dns_data.specs.declared.record_type.RecordType.{RecordType}
use Rattle.grant_policy.specs.declared.action.Action.{Action}
use Rattle.grant_policy.specs.declared.callers.Callers.{Callers}
use Rattle.grant_policy.specs.declared.rule.Rule.{Rule}
use Rattle.grant_policy.specs.Scopes.{covers}
use Rattle.grant_policy.specs.Rules.{Question, Matches, matches, is_of}
use Rattle.grant_policy.specs.Decisions.{IsFirstMatch}
use Rattle.grant_policy.proofs.RuleLemmas.{matches-Decides}
use Rattle.policy_tools.specs.Idle.{Takes}
use Rattle.policy_tools.specs.Representatives.{AreAlike}
use Rattle.policy_tools.specs.Points.{names_point}
use Rattle.policy_tools.specs.Taking.{AreCallers, shared_of, includes, speaks}
use Rattle.policy_tools.specs.Claims.{is_taken}
use Rattle.policy_tools.proofs.CallerLemmas.{represented, IsShared, shared_by}

-- ---- both

pub fst : (a b : Bool) → (a && b) ≡ true → a ≡ true
fst a b e = (and_parts a b e).0

pub snd : (a b : Bool) → (a && b) ≡ true → b ≡ true
snd a b e = (and_parts a b e).1

-- ---- places

pub at_place : (rules : List Rule) (k : ℕ) (rule : Rule) → slice_get rules k ≡ Some rule → Contains rules rule
at_place rules k rule at = (k, slice_get_within rules k rule at, get_or_from_slice_get rules k rule rule at)

pub before_place : (rules : List Rule) (j k : ℕ) (rule : Rule) → k < length (take j rules) → get_or (take j rules) k rule ≡ rule → (k < j) × (slice_get rules k ≡ Some rule)
before_place rules j k rule lt is =
    let near : k < j = omega (arith, length-take j rules) in
    let far : k < length rules = omega (arith, length-take j rules) in
    (near, slice_get_read rules (length rules) k rule refl far (sym is ∙ get_or-take j rules k rule near))

-- a rule before another, among those that pass
pub passes_before : (p : Rule → Bool) (rules : List Rule) (j k : ℕ) (rule : Rule) → k < j → slice_get rules k ≡ Some rule → p rule ≡ true → list_any p (take j rules) ≡ true
passes_before p rules j k rule lt at yes' =
    let within = slice_get_within rules k rule at in
    let is : get_or (take j rules) k rule ≡ rule = get_or-take j rules k rule lt ∙ get_or_from_slice_get rules k rule rule at in
    list_any_at p (take j rules) k rule (omega (arith, length-take j rules)) (subst (λ (r : Rule). p r ≡ true) (sym is) yes')

abbrev asked_of : List ℕ → List (List ℕ) → RecordType → Action → Question
asked_of caller name t a = record { caller = caller; name = name; record_type = t; action = a }

module _ (rules : List Rule) (few : length rules ≤ 1024) (i j : ℕ) (rule taker : Rule) (at : slice_get rules i ≡ Some rule) (taker_at : slice_get rules j ≡ Some taker) where
  -- a rule decides what another matches, where no rule before it takes a pair of both from all the callers of whom both speak
  pub taken_at : (callers : Callers) → AreCallers callers → shared_of rule.callers taker.callers ≡ Some callers → (name : List (List ℕ)) → IsName name → (t : RecordType) (a : Action) → speaks rule name t a ≡ true → speaks taker name t a ≡ true → is_taken (take j rules) name callers t a ≡ false → Takes rules i j
  taken_at callers are shares name named t a here there none =
      let who = represented rules callers few are in
      let asked = asked_of who.0 name t a in
      let own = shared_by rule.callers taker.callers callers shares in
      record {
        asked = asked;
        can = record { caller = who.1.identifier; name = named };
        rule = rule;
        at = at;
        matching = (matches-Decides asked rule).0 (and_from (is_of rule.callers who.0) (speaks rule name t a) (who.1.alike rule (at_place rules i rule at) ∙ own.0) here);
        taker = taker;
        first = record {
          at = taker_at;
          matching = (matches-Decides asked taker).0 (and_from (is_of taker.callers who.0) (speaks taker name t a) (who.1.alike taker (at_place rules j taker taker_at) ∙ own.1) there);
          first = λ m earlier lt earlier_at mt.
              let b = (matches-Decides asked earlier).1 mt in
              let of = fst (is_of earlier.callers who.0) (speaks earlier name t a) b in
              let says = snd (is_of earlier.callers who.0) (speaks earlier name t a) b in
              let all = sym (who.1.alike earlier (at_place rules m earlier earlier_at)) ∙ of in
              false≢true (sym none ∙ passes_before (λ (r : Rule). includes r.callers callers && speaks r name t a) rules j m earlier lt earlier_at (and_from (includes earlier.callers callers) (speaks earlier name t a) all says));
        };
      }

  -- and where it decides a question, no rule before it takes its pair from all these callers, at a name that is alike
  pub still_free : (asked : Question) → IsFirstMatch asked rules j taker → (callers : Callers) → IsShared rule.callers taker.callers callers asked.caller → (name : List (List ℕ)) → AreAlike rules asked.name name → is_taken (take j rules) name callers asked.record_type asked.action ≡ false
  still_free asked first callers shared name alike =
      false_from_ne_true (is_taken (take j rules) name callers asked.record_type asked.action)
      (λ yes'.
      let t = asked.record_type in
      let a = asked.action in
      let e = Any-from_list_any (λ (r : Rule). includes r.callers callers && speaks r name t a) (take j rules) yes' in
      let earlier = e.1 in
      let place = before_place rules j e.0 earlier e.2 e.3 in
      let of = shared.among earlier.callers (fst (includes earlier.callers callers) (speaks earlier name t a) e.4) in
      let says = snd (includes earlier.callers callers) (speaks earlier name t a) e.4 in
      let rest = snd (covers earlier.scope earlier.at name) (names_point earlier t a) says in
      let c = alike earlier (at_place rules e.0 earlier place.1) ∙ fst (covers earlier.scope earlier.at name) (names_point earlier t a) says in
      let m : matches asked earlier ≡ true = and_from (is_of earlier.callers asked.caller) (speaks earlier asked.name t a) of (and_from (covers earlier.scope earlier.at asked.name) (names_point earlier t a) c rest) in
      first.first e.0 earlier place.0 place.1 ((matches-Decides asked earlier).0 m))

-- a rule that matches a question speaks of its caller, of each name that is alike, and of its pair
pub spoken : (rules : List Rule) (asked : Question) (own : Rule) (name : List (List ℕ)) → Contains rules own → AreAlike rules asked.name name → Matches asked own → (is_of own.callers asked.caller ≡ true) × (covers own.scope own.at name ≡ true) × (names_point own asked.record_type asked.action ≡ true)
spoken rules asked own name in' alike m =
    let t = asked.record_type in
    let a = asked.action in
    let b = (matches-Decides asked own).1 m in
    let says = snd (is_of own.callers asked.caller) (speaks own asked.name t a) b in (
      fst (is_of own.callers asked.caller) (speaks own asked.name t a) b,
      sym (alike own in') ∙ fst (covers own.scope own.at asked.name) (names_point own t a) says,
      snd (covers own.scope own.at asked.name) (names_point own t a) says,
    )

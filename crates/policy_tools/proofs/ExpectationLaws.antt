-- Expectations: what is read is in the grammar, and what is in the grammar is read.
use Rattle.std.proofs.Common.{◌≡◌, ◌≢◌, ◌↔◌, inl, inr, ℕ, ◌+◌, ◌-◌, ◌<◌, ◌≤◌, Bool, true, false, cond, leb, zero, suc, List, [], ◌∷◌, ◌++◌, length, take, drop, Option, Some, None, Result, Ok, Err, IfOk, Vec, Global, eqb, refl, sym, ap, ◌∙◌, subst, codes, arith, length-append}
use Rattle.std.specs.Prelude.{bytes_eq}
use Rattle.std.specs.Bool.{Decides}
use Rattle.std.specs.List.{AllByRecursion}
use Rattle.std.specs.Option.{option_to_list}
use Rattle.std.proofs.lemmas.Bool.{false≢true, false_from_ne_true}
use Rattle.std.proofs.lemmas.Bool.Decides.{Decides-and, Decides-like, Decides-ltb, leb_tells}
use Rattle.std.proofs.lemmas.List.{take-append-drop, take_at, drop_at}
use Rattle.std.proofs.lemmas.Slice.Eq.{bytes_eq-Decides}
use Rattle.dns_names.specs.declared.name_fault.NameFault.{NameFault}
use Rattle.dns_names.specs.Reading.{absolute_name}
use Rattle.dns_names.proofs.ReadingLaws.{absolute_found, absolute_only}
use Rattle.dns_names.proofs.SymbolLaws.{IsBytes}
use Rattle.dns_data.specs.declared.record_type.RecordType.{RecordType}
use Rattle.dns_data.specs.Types.{IsCalled}
use Rattle.dns_data.proofs.WordLemmas.{by_word}
use Rattle.grant_policy.specs.declared.action.Action.{Action}
use Rattle.grant_policy.specs.declared.effect.Effect.{Effect}
use Rattle.grant_policy.specs.declared.effect.Effect.TheVariants.{Grant, Deny}
use Rattle.grant_policy.specs.declared.scope.Scope.{Scope}
use Rattle.grant_policy.specs.declared.scope.Scope.TheVariants as scope
use Rattle.grant_policy.specs.Identifiers.{IsIdentifier}
use Rattle.grant_policy.specs.Reading.{identifier_of, is_identifier, type_of}
use Rattle.grant_policy.specs.Words.{action_text, action_of, all_actions}
use Rattle.grant_policy.proofs.WordLemmas.{action_own, type_named}
use Rattle.policy_tools.specs.declared.expectation.ExpectedDecision.{ExpectedDecision}
use Rattle.policy_tools.specs.declared.expectation.Limit.{Limit}
use Rattle.policy_tools.specs.declared.expectation.Expectation.{Expectation}
use Rattle.policy_tools.specs.declared.expectation.Expectation.TheVariants.{Decides as DecidesSo, Keeps}
use Rattle.policy_tools.specs.declared.expectation_fault.ExpectationFault.{ExpectationFault}
use Rattle.policy_tools.specs.declared.expectation_fault.ExpectationFault.TheVariants.{Form, NoCaller, TypeNotKept, NoAction, NoRule}
use Rattle.policy_tools.specs.declared.expectation_fault.ExpectationsFault.{ExpectationsFault}
use Rattle.policy_tools.specs.declared.expectation_lines.ExpectationLine.{ExpectationLine}
use Rattle.policy_tools.specs.ExpectationFaults.{ReadsText, or_fault, of_names, ◌>>=◌, ◌>>>=◌}
use Rattle.policy_tools.specs.ExpectationLines.{AreWords, effect_word, SpellsRule, SpellsDecision, AreListable, SpellsListed, SpellsOne, place_word, SpellsLimit, SpellsExpectation, AreExpectations, lines_of}
use Rattle.policy_tools.specs.ExpectationReading.{words_of, rule_in, decision_in, listable_of, callers_in, is_nobody, listed_in, one_in, place_of, limit_of, limit_in, expectation_in, row_of, expectations_from, expectations_of}
use Rattle.policy_tools.proofs.WordLaws.{words_found, words_only, words_octets, parts_octets}

-- ---- steps

abbrev Read : Type 0 → Type 0
Read A = Result A ExpectationFault

abbrev ok : {A : Type 0} → A → Read A
ok x = Ok x

step_ok : {A B : Type 0} (r : Read A) (f : A → Read B) (y : B) → (r >>= f) ≡ Ok y → (x : A) × (r ≡ Ok x) × (f x ≡ Ok y)
step_ok (Ok x) f y e = (x, refl, e)
step_ok (Err fault) f y e = absurd cc

step_on : {A B : Type 0} (r : Read A) (f : A → Read B) (x : A) → r ≡ Ok x → (r >>= f) ≡ f x
step_on r f x e = ap (λ q. q >>= f) e

same_Ok : {A : Type 0} (x y : A) → ok x ≡ ok y → x ≡ y
same_Ok x y e = cc

not_Err : {A : Type 0} (fault : ExpectationFault) (x : A) → Err fault ≡ ok x → ⊥
not_Err fault x e = cc

same_Some : {T : Type 0} (a b : T) → Some a ≡ Some b → a ≡ b
same_Some a b e = cc

fault_ok : {A : Type 0} (o : Option A) (fault : ExpectationFault) (x : A) → or_fault o fault ≡ Ok x → o ≡ Some x
fault_ok None fault x e = absurd (not_Err fault x e)
fault_ok (Some y) fault x e = ap Some (same_Ok y x e)

names_ok : {A : Type 0} (r : Result A NameFault) (x : A) → of_names r ≡ Ok x → r ≡ Ok x
names_ok (Ok y) x e = let same : y ≡ x = same_Ok y x e in ap Ok same
names_ok (Err fault) x e = absurd cc

-- ---- words

identifier-Decides : (text : List ℕ) → Decides (is_identifier text) (IsIdentifier text)
identifier-Decides text =
    Decides-like _
    (λ h. record { octets = h.0; not_empty = h.1.0; short = h.1.1 })
    (λ i. (i.octets, (i.not_empty, i.short)))
    (Decides-and _ _ ((λ e. e), (λ e. e)) (Decides-and _ _ (Decides-ltb 0 (length text)) (Decides-leb (length text) 64)))
  where
    Decides-leb : (a b : ℕ) → Decides (leb a b) (a ≤ b)
    Decides-leb a b = elim (leb_tells a b) [ inl t ↦ (λ _. t.1, λ _. t.0) | inr f ↦ (λ e. absurd (false≢true (sym f.0 ∙ e)), λ le. absurd (omega (arith, f.1, le))) ]

some_of : (test : Bool) (text id : List ℕ) → cond test (Some text) None ≡ Some id → (test ≡ true) × (text ≡ id)
some_of true text id e = (refl, same_Some text id e)
some_of false text id e = absurd cc

identifier_ok : (text id : List ℕ) → identifier_of text ≡ Some id → (text ≡ id) × IsIdentifier id
identifier_ok text id e =
    let h = some_of (is_identifier text) text id e in
    (h.1, subst IsIdentifier h.1 ((identifier-Decides text).0 h.0))

identifier_only : (id : List ℕ) → IsIdentifier id → identifier_of id ≡ Some id
identifier_only id is = ap (λ b. cond b (Some id) None) ((identifier-Decides id).1 is)

action_spelled : (text : List ℕ) (x : Action) → (action_of text ≡ Some x) ↔ (action_text x ≡ text)
action_spelled text x = by_word action_text all_actions action_own text (action_of text) refl x

type_spelled : (text : List ℕ) (x : RecordType) → (type_of text ≡ Some x) ↔ IsCalled x text
type_spelled text x = type_named text x

place_own : (t : Scope) → place_of (place_word t) ≡ Some t
place_own scope.Name = refl
place_own scope.Subtree = refl
place_own scope.Below = refl

place_spelled : (text : List ℕ) (x : Scope) → (place_of text ≡ Some x) ↔ (place_word x ≡ text)
place_spelled text x = by_word place_word (scope.Name ∷ scope.Subtree ∷ scope.Below ∷ []) place_own text (place_of text) refl x

-- ---- decisions

rule_read : (id : List ℕ) (b : Bool) (rule : Option (List ℕ)) → cond b (or_fault (identifier_of id) NoRule >>= λ i. ok (Some i)) (Err Form) ≡ Ok rule → (b ≡ true) × (rule ≡ Some id) × IsIdentifier id
rule_read id true rule e =
    let s = step_ok (or_fault (identifier_of id) NoRule) (λ i. ok (Some i)) rule e in
    let i = identifier_ok id s.0 (fault_ok (identifier_of id) NoRule s.0 s.1) in
    (refl, sym (same_Ok (Some s.0) rule s.2) ∙ ap Some (sym i.0), subst IsIdentifier (sym i.0) i.1)
rule_read id false rule e = absurd (not_Err Form rule e)

rule_found : (words : List (List ℕ)) (rule : Option (List ℕ)) → rule_in words ≡ Ok rule → SpellsRule rule words
rule_found [] rule e = subst (λ (r : Option (List ℕ)). SpellsRule r []) (same_Ok None rule e) refl
rule_found (by ∷ []) rule e = absurd (not_Err Form rule e)
rule_found (by ∷ id ∷ []) rule e =
    let r = rule_read id (bytes_eq by (codes "by")) rule e in
    subst (λ (o : Option (List ℕ)). SpellsRule o (by ∷ id ∷ [])) (sym r.1) (ap (λ (w : List ℕ). w ∷ id ∷ []) ((bytes_eq-Decides by (codes "by")).0 r.0), r.2)
rule_found (by ∷ id ∷ word ∷ words) rule e = absurd (not_Err Form rule e)

rule_only : (rule : Option (List ℕ)) (words : List (List ℕ)) → SpellsRule rule words → rule_in words ≡ Ok rule
rule_only None words e = ap rule_in e
rule_only (Some id) words (e, is) = ap rule_in e ∙ ap (λ (o : Option (List ℕ)). or_fault o NoRule >>= λ i. ok (Some i)) (identifier_only id is)

module _ (effect : Effect) (caller name record_type action : List ℕ) (rule : List (List ℕ)) where
  abbrev d5 : List ℕ → List (List ℕ) → RecordType → Action → Option (List ℕ) → Read ExpectedDecision
  d5 c n t a r = Ok (record { effect = effect; caller = c; name = n; record_type = t; action = a; rule = r })

  abbrev d4 : List ℕ → List (List ℕ) → RecordType → Action → Read ExpectedDecision
  d4 c n t a = rule_in rule >>= d5 c n t a

  abbrev d3 : List ℕ → List (List ℕ) → RecordType → Read ExpectedDecision
  d3 c n t = or_fault (action_of action) NoAction >>= d4 c n t

  abbrev d2 : List ℕ → List (List ℕ) → Read ExpectedDecision
  d2 c n = or_fault (type_of record_type) TypeNotKept >>= d3 c n

  abbrev d1 : List ℕ → Read ExpectedDecision
  d1 c = of_names (absolute_name name) >>= d2 c

  decision_parts : (expected : ExpectedDecision) → IsBytes name → decision_in effect (caller ∷ name ∷ record_type ∷ action ∷ rule) ≡ Ok expected → SpellsDecision expected (effect_word effect ∷ caller ∷ name ∷ record_type ∷ action ∷ rule)
  decision_parts expected bytes e =
      let c = step_ok (or_fault (identifier_of caller) NoCaller) d1 expected e in
      let n = step_ok (of_names (absolute_name name)) (d2 c.0) expected c.2 in
      let t = step_ok (or_fault (type_of record_type) TypeNotKept) (d3 c.0 n.0) expected n.2 in
      let a = step_ok (or_fault (action_of action) NoAction) (d4 c.0 n.0 t.0) expected t.2 in
      let r = step_ok (rule_in rule) (d5 c.0 n.0 t.0 a.0) expected a.2 in
      let made : ExpectedDecision = record { effect = effect; caller = c.0; name = n.0; record_type = t.0; action = a.0; rule = r.0 } in
      let id = identifier_ok caller c.0 (fault_ok (identifier_of caller) NoCaller c.0 c.1) in
      let named = absolute_found name n.0 bytes (names_ok (absolute_name name) n.0 n.1) in
      let act : action_text a.0 ≡ action = (action_spelled action a.0).0 (fault_ok (action_of action) NoAction a.0 a.1) in
      subst (λ (x : ExpectedDecision). SpellsDecision x (effect_word effect ∷ caller ∷ name ∷ record_type ∷ action ∷ rule)) (same_Ok made expected r.2) (record {
        name = name;
        record_type = record_type;
        rule = rule;
        are = ap (λ (w : List ℕ). effect_word effect ∷ w ∷ name ∷ record_type ∷ action ∷ rule) id.0 ∙ ap (λ (w : List ℕ). effect_word effect ∷ c.0 ∷ name ∷ record_type ∷ w ∷ rule) (sym act);
        identifier = id.1;
        valid = named.0;
        name_is = named.1;
        type_is = (type_spelled record_type t.0).0 (fault_ok (type_of record_type) TypeNotKept t.0 t.1);
        rule_is = rule_found rule r.0 r.1;
      })

  decision_made : (c : List ℕ) (n : List (List ℕ)) (t : RecordType) (a : Action) (r : Option (List ℕ)) → identifier_of caller ≡ Some c → absolute_name name ≡ Ok n → type_of record_type ≡ Some t → action_of action ≡ Some a → rule_in rule ≡ Ok r → decision_in effect (caller ∷ name ∷ record_type ∷ action ∷ rule) ≡ d5 c n t a r
  decision_made c n t a r ic in' it ia ir =
      step_on (or_fault (identifier_of caller) NoCaller) d1 c (ap (λ (o : Option (List ℕ)). or_fault o NoCaller) ic)
      ∙ step_on (of_names (absolute_name name)) (d2 c) n (ap of_names in')
      ∙ step_on (or_fault (type_of record_type) TypeNotKept) (d3 c n) t (ap (λ (o : Option RecordType). or_fault o TypeNotKept) it)
      ∙ step_on (or_fault (action_of action) NoAction) (d4 c n t) a (ap (λ (o : Option Action). or_fault o NoAction) ia)
      ∙ step_on (rule_in rule) (d5 c n t a) r ir

-- each of these words is of octets
abbrev pub AreWordBytes : List (List ℕ) → Type 0
AreWordBytes words = AllByRecursion IsBytes words

decision_found : (effect : Effect) (words : List (List ℕ)) (expected : ExpectedDecision) → AreWordBytes words → decision_in effect words ≡ Ok expected → SpellsDecision expected (effect_word effect ∷ words)
decision_found effect [] expected bytes e = absurd (not_Err Form expected e)
decision_found effect (caller ∷ []) expected bytes e = absurd (not_Err Form expected e)
decision_found effect (caller ∷ name ∷ []) expected bytes e = absurd (not_Err Form expected e)
decision_found effect (caller ∷ name ∷ record_type ∷ []) expected bytes e = absurd (not_Err Form expected e)
decision_found effect (caller ∷ name ∷ record_type ∷ action ∷ rule) expected bytes e = decision_parts effect caller name record_type action rule expected bytes.1.0 e

decision_only : (expected : ExpectedDecision) (words : List (List ℕ)) → SpellsDecision expected (effect_word expected.effect ∷ words) → decision_in expected.effect words ≡ Ok expected
decision_only expected words is =
    ap (decision_in expected.effect) (tail (effect_word expected.effect) (effect_word expected.effect) words (expected.caller ∷ is.name ∷ is.record_type ∷ action_text expected.action ∷ is.rule) is.are)
    ∙ decision_made expected.effect expected.caller is.name is.record_type (action_text expected.action) is.rule expected.caller expected.name expected.record_type expected.action expected.rule
    (identifier_only expected.caller is.identifier)
    (absolute_only expected.name is.name is.valid is.name_is)
    ((type_spelled is.record_type expected.record_type).1 is.type_is)
    (action_own expected.action)
    (rule_only expected.rule is.rule is.rule_is)
  where
    tail : (x y : List ℕ) (xs ys : List (List ℕ)) → x ∷ xs ≡ y ∷ ys → xs ≡ ys
    tail x y xs ys e = cc

-- ---- limits

listable_read : (word : List ℕ) (b : Bool) (c : List ℕ) → bytes_eq word (codes "nobody") ≡ b → cond b None (identifier_of word) ≡ Some c → (word ≡ c) × IsIdentifier c × (c ≢ codes "nobody")
listable_read word true c is e = absurd cc
listable_read word false c is e =
    let id = identifier_ok word c e in
    (id.0, id.1, λ same. false≢true (sym is ∙ (bytes_eq-Decides word (codes "nobody")).1 (id.0 ∙ same)))

listable_made : (word : List ℕ) → IsIdentifier word → word ≢ codes "nobody" → listable_of word ≡ Some word
listable_made word is other =
    ap (λ (b : Bool). cond b None (identifier_of word)) (false_from_ne_true (bytes_eq word (codes "nobody")) (λ yes'. other ((bytes_eq-Decides word (codes "nobody")).0 yes')))
    ∙ identifier_only word is

callers_found : (words callers : List (List ℕ)) → callers_in words ≡ Ok callers → (words ≡ callers) × AreListable callers
callers_found [] callers e = subst (λ (c : List (List ℕ)). ([] ≡ c) × AreListable c) (same_Ok [] callers e) (refl, tt)
callers_found (word ∷ words) callers e =
    let first = step_ok (or_fault (listable_of word) NoCaller) (λ c. callers_in words >>= λ cs. ok (c ∷ cs)) callers e in
    let rest = step_ok (callers_in words) (λ cs. ok (first.0 ∷ cs)) callers first.2 in
    let here = listable_read word (bytes_eq word (codes "nobody")) first.0 refl (fault_ok (listable_of word) NoCaller first.0 first.1) in
    let others = callers_found words rest.0 rest.1 in
    subst (λ (c : List (List ℕ)). (word ∷ words ≡ c) × AreListable c) (same_Ok (first.0 ∷ rest.0) callers rest.2) (
      ap (λ (w : List ℕ). w ∷ words) here.0 ∙ ap (λ (ws : List (List ℕ)). first.0 ∷ ws) others.0,
      ((here.1, here.2), others.1),
    )

callers_only : (callers : List (List ℕ)) → AreListable callers → callers_in callers ≡ Ok callers
callers_only [] are = refl
callers_only (caller ∷ callers) ((is, other), are) =
    step_on (or_fault (listable_of caller) NoCaller) (λ c. callers_in callers >>= λ cs. ok (c ∷ cs)) caller (ap (λ (o : Option (List ℕ)). or_fault o NoCaller) (listable_made caller is other))
    ∙ step_on (callers_in callers) (λ cs. ok (caller ∷ cs)) callers (callers_only callers are)

nobody_is : (word : List ℕ) (words : List (List ℕ)) → is_nobody (word ∷ words) ≡ true → word ∷ words ≡ codes "nobody" ∷ []
nobody_is word [] e = ap (λ (w : List ℕ). w ∷ []) ((bytes_eq-Decides word (codes "nobody")).0 e)
nobody_is word (next ∷ words) e = absurd (false≢true e)

not_nobody : (caller : List ℕ) (callers : List (List ℕ)) → caller ≢ codes "nobody" → is_nobody (caller ∷ callers) ≡ false
not_nobody caller [] other = false_from_ne_true (bytes_eq caller (codes "nobody")) (λ yes'. other ((bytes_eq-Decides caller (codes "nobody")).0 yes'))
not_nobody caller (next ∷ callers) other = refl

listed_found : (words callers : List (List ℕ)) → listed_in words ≡ Ok callers → SpellsListed callers words
listed_found [] callers e = absurd (not_Err Form callers e)
listed_found (word ∷ words) callers e = by (is_nobody (word ∷ words)) refl e
  where
    by : (b : Bool) → is_nobody (word ∷ words) ≡ b → cond b (Ok []) (callers_in (word ∷ words)) ≡ Ok callers → SpellsListed callers (word ∷ words)
    by true is h = subst (λ (c : List (List ℕ)). SpellsListed c (word ∷ words)) (same_Ok [] callers h) (nobody_is word words is)
    by false is h =
        let found = callers_found (word ∷ words) callers h in
        subst (λ (c : List (List ℕ)). SpellsListed c (word ∷ words)) found.0 (refl, subst AreListable (sym found.0) found.1)

listed_only : (callers words : List (List ℕ)) → SpellsListed callers words → listed_in words ≡ Ok callers
listed_only [] words e = ap listed_in e
listed_only (caller ∷ callers) words (e, are) =
    ap listed_in e
    ∙ ap (λ (b : Bool). cond b (Ok []) (callers_in (caller ∷ callers))) (not_nobody caller callers are.0.1)
    ∙ callers_only (caller ∷ callers) are

module _ {X : Type 0} (read : List ℕ → Option X) (Spells : X → List ℕ → Type 0) (fault : ExpectationFault) (tells : (text : List ℕ) (x : X) → (read text ≡ Some x) ↔ Spells x text) where
  one_found : (word : List ℕ) (one : Option (List X)) → one_in read fault word ≡ Ok one → SpellsOne Spells one word
  one_found word one e = by (bytes_eq word (codes "*")) refl e
    where
      by : (b : Bool) → bytes_eq word (codes "*") ≡ b → cond b (Ok None) (or_fault (read word) fault >>= λ x. ok (Some (x ∷ []))) ≡ Ok one → SpellsOne Spells one word
      by true is h = subst (λ (o : Option (List X)). SpellsOne Spells o word) (same_Ok None one h) ((bytes_eq-Decides word (codes "*")).0 is)
      by false is h =
          let s = step_ok (or_fault (read word) fault) (λ x. ok (Some (x ∷ []))) one h in
          subst (λ (o : Option (List X)). SpellsOne Spells o word) (same_Ok (Some (s.0 ∷ [])) one s.2) (
            (λ star. false≢true (sym is ∙ (bytes_eq-Decides word (codes "*")).1 star)),
            (tells word s.0).0 (fault_ok (read word) fault s.0 s.1),
          )

  one_only : (one : Option (List X)) (word : List ℕ) → SpellsOne Spells one word → one_in read fault word ≡ Ok one
  one_only None word e = ap (one_in read fault) e
  one_only (Some []) word is = absurd is
  one_only (Some (x ∷ [])) word (other, is) =
      ap (λ (b : Bool). cond b (Ok None) (or_fault (read word) fault >>= λ y. ok (Some (y ∷ [])))) (false_from_ne_true (bytes_eq word (codes "*")) (λ yes'. other ((bytes_eq-Decides word (codes "*")).0 yes')))
      ∙ ap (λ (o : Option X). or_fault o fault >>= λ y. ok (Some (y ∷ []))) ((tells word x).1 is)
  one_only (Some (x ∷ y ∷ xs)) word is = absurd is

module _ (callers : List (List ℕ)) (action record_type place name : List ℕ) where
  abbrev l5 : List (List ℕ) → Option (List Action) → Option (List RecordType) → Scope → List (List ℕ) → Read Limit
  l5 cs as' ts s n = Ok (record { callers = cs; actions = as'; types = ts; scope = s; at = n })

  abbrev l4 : List (List ℕ) → Option (List Action) → Option (List RecordType) → Scope → Read Limit
  l4 cs as' ts s = of_names (absolute_name name) >>= l5 cs as' ts s

  abbrev l3 : List (List ℕ) → Option (List Action) → Option (List RecordType) → Read Limit
  l3 cs as' ts = or_fault (place_of place) Form >>= l4 cs as' ts

  abbrev l2 : List (List ℕ) → Option (List Action) → Read Limit
  l2 cs as' = one_in type_of TypeNotKept record_type >>= l3 cs as'

  abbrev l1 : List (List ℕ) → Read Limit
  l1 cs = one_in action_of NoAction action >>= l2 cs

  abbrev l0 : Read Limit
  l0 = listed_in callers >>= l1

  limit_parts : (limit : Limit) → IsBytes name → l0 ≡ Ok limit → SpellsLimit limit (codes "only" ∷ (callers ++ (codes "may" ∷ action ∷ record_type ∷ place ∷ name ∷ [])))
  limit_parts limit bytes e =
      let c = step_ok (listed_in callers) l1 limit e in
      let a = step_ok (one_in action_of NoAction action) (l2 c.0) limit c.2 in
      let t = step_ok (one_in type_of TypeNotKept record_type) (l3 c.0 a.0) limit a.2 in
      let s = step_ok (or_fault (place_of place) Form) (l4 c.0 a.0 t.0) limit t.2 in
      let n = step_ok (of_names (absolute_name name)) (l5 c.0 a.0 t.0 s.0) limit s.2 in
      let made : Limit = record { callers = c.0; actions = a.0; types = t.0; scope = s.0; at = n.0 } in
      let named = absolute_found name n.0 bytes (names_ok (absolute_name name) n.0 n.1) in
      let where' : place_word s.0 ≡ place = (place_spelled place s.0).0 (fault_ok (place_of place) Form s.0 s.1) in
      subst (λ (x : Limit). SpellsLimit x (codes "only" ∷ (callers ++ (codes "may" ∷ action ∷ record_type ∷ place ∷ name ∷ [])))) (same_Ok made limit n.2) (record {
        callers = callers;
        action = action;
        record_type = record_type;
        name = name;
        are = ap (λ (w : List ℕ). codes "only" ∷ (callers ++ (codes "may" ∷ action ∷ record_type ∷ w ∷ name ∷ []))) (sym where');
        callers_are = listed_found callers c.0 c.1;
        action_is = one_found action_of (λ x word. action_text x ≡ word) NoAction action_spelled action a.0 a.1;
        type_is = one_found type_of IsCalled TypeNotKept type_spelled record_type t.0 t.1;
        valid = named.0;
        name_is = named.1;
      })

  limit_made : (limit : Limit) → SpellsListed limit.callers callers → SpellsOne (λ x word. action_text x ≡ word) limit.actions action → SpellsOne IsCalled limit.types record_type → place_of place ≡ Some limit.scope → absolute_name name ≡ Ok limit.at → l0 ≡ Ok limit
  limit_made limit ic ia it is in' =
      step_on (listed_in callers) l1 limit.callers (listed_only limit.callers callers ic)
      ∙ step_on (one_in action_of NoAction action) (l2 limit.callers) limit.actions (one_only action_of (λ x word. action_text x ≡ word) NoAction action_spelled limit.actions action ia)
      ∙ step_on (one_in type_of TypeNotKept record_type) (l3 limit.callers limit.actions) limit.types (one_only type_of IsCalled TypeNotKept type_spelled limit.types record_type it)
      ∙ step_on (or_fault (place_of place) Form) (l4 limit.callers limit.actions limit.types) limit.scope (ap (λ (o : Option Scope). or_fault o Form) is)
      ∙ step_on (of_names (absolute_name name)) (l5 limit.callers limit.actions limit.types limit.scope) limit.at (ap of_names in')

limit_read : (callers words : List (List ℕ)) (limit : Limit) → AreWordBytes words → limit_of callers words ≡ Ok limit → SpellsLimit limit (codes "only" ∷ (callers ++ words))
limit_read callers [] limit bytes e = absurd (not_Err Form limit e)
limit_read callers (may ∷ []) limit bytes e = absurd (not_Err Form limit e)
limit_read callers (may ∷ action ∷ []) limit bytes e = absurd (not_Err Form limit e)
limit_read callers (may ∷ action ∷ record_type ∷ []) limit bytes e = absurd (not_Err Form limit e)
limit_read callers (may ∷ action ∷ record_type ∷ place ∷ []) limit bytes e = absurd (not_Err Form limit e)
limit_read callers (may ∷ action ∷ record_type ∷ place ∷ name ∷ []) limit bytes e = by (bytes_eq may (codes "may")) refl e
  where
    by : (b : Bool) → bytes_eq may (codes "may") ≡ b → cond b (l0 callers action record_type place name) (Err Form) ≡ Ok limit → SpellsLimit limit (codes "only" ∷ (callers ++ (may ∷ action ∷ record_type ∷ place ∷ name ∷ [])))
    by true is h =
        subst (λ (w : List ℕ). SpellsLimit limit (codes "only" ∷ (callers ++ (w ∷ action ∷ record_type ∷ place ∷ name ∷ [])))) (sym ((bytes_eq-Decides may (codes "may")).0 is))
        (limit_parts callers action record_type place name limit bytes.1.1.1.1.0 h)
    by false is h = absurd (not_Err Form limit h)
limit_read callers (may ∷ action ∷ record_type ∷ place ∷ name ∷ word ∷ words) limit bytes e = absurd (not_Err Form limit e)

bytes_drop : (n : ℕ) (words : List (List ℕ)) → AreWordBytes words → AreWordBytes (drop n words)
bytes_drop zero words bytes = bytes
bytes_drop (suc n) [] bytes = tt
bytes_drop (suc n) (word ∷ words) bytes = bytes_drop n words bytes.1

limit_found : (words : List (List ℕ)) (limit : Limit) → AreWordBytes words → limit_in words ≡ Ok limit → SpellsLimit limit (codes "only" ∷ words)
limit_found words limit bytes e =
    let n = length words - 5 in
    subst (λ (ws : List (List ℕ)). SpellsLimit limit (codes "only" ∷ ws)) (take-append-drop n words) (limit_read (take n words) (drop n words) limit (bytes_drop n words bytes) e)

limit_only : (limit : Limit) (words : List (List ℕ)) → SpellsLimit limit (codes "only" ∷ words) → limit_in words ≡ Ok limit
limit_only limit words is = ap limit_in whole ∙ ap (λ (ws : List (List ℕ)). limit_of ws (drop n (callers ++ five))) front ∙ ap (limit_of callers) back ∙ made
  where
    tail : (x y : List ℕ) (xs ys : List (List ℕ)) → x ∷ xs ≡ y ∷ ys → xs ≡ ys
    tail x y xs ys e = cc

    callers : List (List ℕ)
    callers = is.callers

    five : List (List ℕ)
    five = codes "may" ∷ is.action ∷ is.record_type ∷ place_word limit.scope ∷ is.name ∷ []

    whole : words ≡ callers ++ five
    whole = tail (codes "only") (codes "only") words (callers ++ five) is.are

    n : ℕ
    n = length (callers ++ five) - 5

    count : length callers ≡ n
    count = omega (arith, length-append callers five)

    front : take n (callers ++ five) ≡ callers
    front = take_at callers five n count

    back : drop n (callers ++ five) ≡ five
    back = drop_at callers five n count

    made : limit_of callers five ≡ Ok limit
    made = limit_made callers is.action is.record_type (place_word limit.scope) is.name limit is.callers_are is.action_is is.type_is (place_own limit.scope) (absolute_only limit.at is.name is.valid is.name_is)

-- ---- lines

-- no words, or those of an expectation
abbrev IsRead : Option Expectation → List (List ℕ) → Type 0
IsRead None words = words ≡ []
IsRead (Some e) words = SpellsExpectation e words

expectation_found : (words : List (List ℕ)) (o : Option Expectation) → AreWordBytes words → expectation_in words ≡ Ok o → IsRead o words
expectation_found [] o bytes e = subst (λ (x : Option Expectation). IsRead x []) (same_Ok None o e) refl
expectation_found (word ∷ words) o bytes e = first (bytes_eq word (codes "granted")) refl e
  where
    grants : Read (Option Expectation)
    grants = decision_in Grant words >>= λ d. ok (Some (DecidesSo d))

    third : (b : Bool) → bytes_eq word (codes "only") ≡ b → cond b (limit_in words >>= λ l. ok (Some (Keeps l))) (Err Form) ≡ Ok o → IsRead o (word ∷ words)
    third true is h =
        let s = step_ok (limit_in words) (λ l. ok (Some (Keeps l))) o h in
        subst (λ (x : Option Expectation). IsRead x (word ∷ words)) (same_Ok (Some (Keeps s.0)) o s.2)
        (subst (λ (w : List ℕ). SpellsLimit s.0 (w ∷ words)) (sym ((bytes_eq-Decides word (codes "only")).0 is)) (limit_found words s.0 bytes.1 s.1))
    third false is h = absurd (not_Err Form o h)

    second : (b : Bool) → bytes_eq word (codes "denied") ≡ b → cond b (decision_in Deny words >>= λ d. ok (Some (DecidesSo d))) (cond (bytes_eq word (codes "only")) (limit_in words >>= λ l. ok (Some (Keeps l))) (Err Form)) ≡ Ok o → IsRead o (word ∷ words)
    second true is h =
        let s = step_ok (decision_in Deny words) (λ d. ok (Some (DecidesSo d))) o h in
        subst (λ (x : Option Expectation). IsRead x (word ∷ words)) (same_Ok (Some (DecidesSo s.0)) o s.2)
        (subst (λ (w : List ℕ). SpellsDecision s.0 (w ∷ words)) (sym ((bytes_eq-Decides word (codes "denied")).0 is)) (decision_found Deny words s.0 bytes.1 s.1))
    second false is h = third (bytes_eq word (codes "only")) refl h

    first : (b : Bool) → bytes_eq word (codes "granted") ≡ b → cond b (decision_in Grant words >>= λ d. ok (Some (DecidesSo d))) (cond (bytes_eq word (codes "denied")) (decision_in Deny words >>= λ d. ok (Some (DecidesSo d))) (cond (bytes_eq word (codes "only")) (limit_in words >>= λ l. ok (Some (Keeps l))) (Err Form))) ≡ Ok o → IsRead o (word ∷ words)
    first true is h =
        let s = step_ok (decision_in Grant words) (λ d. ok (Some (DecidesSo d))) o h in
        subst (λ (x : Option Expectation). IsRead x (word ∷ words)) (same_Ok (Some (DecidesSo s.0)) o s.2)
        (subst (λ (w : List ℕ). SpellsDecision s.0 (w ∷ words)) (sym ((bytes_eq-Decides word (codes "granted")).0 is)) (decision_found Grant words s.0 bytes.1 s.1))
    first false is h = second (bytes_eq word (codes "denied")) refl h

decides_read : (effect : Effect) (words : List (List ℕ)) (d : ExpectedDecision) → decision_in effect words ≡ Ok d → expectation_in (effect_word effect ∷ words) ≡ Ok (Some (DecidesSo d))
decides_read Grant words d e = step_on (decision_in Grant words) (λ x. ok (Some (DecidesSo x))) d e
decides_read Deny words d e = step_on (decision_in Deny words) (λ x. ok (Some (DecidesSo x))) d e

expectation_only : (e : Expectation) (words : List (List ℕ)) → SpellsExpectation e words → expectation_in words ≡ Ok (Some e)
expectation_only (DecidesSo d) words is =
    let rest : List (List ℕ) = d.caller ∷ is.name ∷ is.record_type ∷ action_text d.action ∷ is.rule in
    ap expectation_in is.are ∙ decides_read d.effect rest d (decision_only d rest (subst (SpellsDecision d) is.are is))
expectation_only (Keeps l) words is =
    let rest : List (List ℕ) = is.callers ++ (codes "may" ∷ is.action ∷ is.record_type ∷ place_word l.scope ∷ is.name ∷ []) in
    ap expectation_in is.are ∙ step_on (limit_in rest) (λ x. ok (Some (Keeps x))) l (limit_only l rest (subst (SpellsLimit l) is.are is))

-- ---- texts

abbrev ReadText : Type 0 → Type 0
ReadText A = Result A ExpectationsFault

abbrev text_ok : {A : Type 0} → A → ReadText A
text_ok x = Ok x

text_step_ok : {A B : Type 0} (r : ReadText A) (f : A → ReadText B) (y : B) → (r >>>= f) ≡ Ok y → (x : A) × (r ≡ Ok x) × (f x ≡ Ok y)
text_step_ok (Ok x) f y e = (x, refl, e)
text_step_ok (Err fault) f y e = absurd cc

same_text : {A : Type 0} (x y : A) → text_ok x ≡ text_ok y → x ≡ y
same_text x y e = cc

-- the row of a line
abbrev IsRow : ℕ → Option ExpectationLine → List (List ℕ) → Type 0
IsRow number None words = words ≡ []
IsRow number (Some row) words = (row.line ≡ number) × SpellsExpectation row.expectation words

row_found : (number : ℕ) (words : List (List ℕ)) (r : Read (Option Expectation)) (o : Option ExpectationLine) → ((e : Option Expectation) → r ≡ Ok e → IsRead e words) → row_of number r ≡ Ok o → IsRow number o words
row_found number words (Ok None) o tells e = subst (λ (x : Option ExpectationLine). IsRow number x words) (same_text None o e) (tells None refl)
row_found number words (Ok (Some x)) o tells e = subst (λ (y : Option ExpectationLine). IsRow number y words) (same_text (Some (record { line = number; expectation = x })) o e) (refl, tells (Some x) refl)
row_found number words (Err fault) o tells e = absurd cc

row_added : (number : ℕ) (line : List ℕ) (lines : List (List ℕ)) (o : Option ExpectationLine) (rows : List ExpectationLine) → IsRow number o (words_of line) → AreExpectations (number + 1) lines rows → AreExpectations number (line ∷ lines) (option_to_list o ++ rows)
row_added number line lines None rows none are = inl (subst (λ (ws : List (List ℕ)). AreWords ws line) none (words_found line), are)
row_added number line lines (Some row) rows (at, is) are = inr (words_of line, row, rows, refl, at, words_found line, is, are)

pub rows_found : (number : ℕ) (lines : List (List ℕ)) (rows : List ExpectationLine) → AllByRecursion IsBytes lines → expectations_from number lines ≡ Ok rows → AreExpectations number lines rows
rows_found number [] rows bytes e = sym (same_text [] rows e)
rows_found number (line ∷ lines) rows bytes e =
    let row = text_step_ok (row_of number (expectation_in (words_of line))) (λ x. expectations_from (number + 1) lines >>>= λ xs. text_ok (option_to_list x ++ xs)) rows e in
    let rest = text_step_ok (expectations_from (number + 1) lines) (λ xs. text_ok (option_to_list row.0 ++ xs)) rows row.2 in
    let are = words_octets (λ (o : ℕ). o < 256) (words_of line) line (words_found line) bytes.0 in
    let here = row_found number (words_of line) (expectation_in (words_of line)) row.0 (λ x h. expectation_found (words_of line) x are h) row.1 in
    subst (AreExpectations number (line ∷ lines)) (same_text (option_to_list row.0 ++ rest.0) rows rest.2) (row_added number line lines row.0 rest.0 here (rows_found (number + 1) lines rest.0 bytes.1 rest.1))

rows_made : (number : ℕ) (line : List ℕ) (lines : List (List ℕ)) (o : Option Expectation) (row : Option ExpectationLine) (rows : List ExpectationLine) → expectation_in (words_of line) ≡ Ok o → row_of number (Ok o) ≡ Ok row → expectations_from (number + 1) lines ≡ Ok rows → expectations_from number (line ∷ lines) ≡ Ok (option_to_list row ++ rows)
rows_made number line lines o row rows e is others =
    ap (λ (r : Read (Option Expectation)). row_of number r >>>= λ x. expectations_from (number + 1) lines >>>= λ xs. text_ok (option_to_list x ++ xs)) e
    ∙ ap (λ (r : ReadText (Option ExpectationLine)). r >>>= λ x. expectations_from (number + 1) lines >>>= λ xs. text_ok (option_to_list x ++ xs)) is
    ∙ ap (λ (r : ReadText (List ExpectationLine)). r >>>= λ xs. text_ok (option_to_list row ++ xs)) others

pub rows_only : (number : ℕ) (lines : List (List ℕ)) (rows : List ExpectationLine) → AreExpectations number lines rows → expectations_from number lines ≡ Ok rows
rows_only number [] rows e = ap text_ok (sym e)
rows_only number (line ∷ lines) rows (inl (none, are)) = rows_made number line lines None None rows (ap expectation_in (words_only [] line none)) refl (rows_only (number + 1) lines rows are)
rows_only number (line ∷ lines) rows (inr (words, row, others, whole, at, spelled, is, are)) =
    rows_made number line lines (Some row.expectation) (Some row) others (ap expectation_in (words_only words line spelled) ∙ expectation_only row.expectation words is)
    (ap (λ (n : ℕ). text_ok (Some (record { line = n; expectation = row.expectation }))) (sym at))
    (rows_only (number + 1) lines others are)
    ∙ ap text_ok (sym whole)

-- ---- what a call read

abbrev Rows : Type 0
Rows = Vec ExpectationLine Global

pub read_found : (text : List ℕ) (r : Result Rows ExpectationsFault) → IsBytes text → ReadsText (λ rows. rows.items) r (expectations_of text) → IfOk r (λ rows. AreExpectations 1 (lines_of text) rows.items)
read_found text (Ok rows) bytes is = rows_found 1 (lines_of text) rows.items (parts_octets (λ (o : ℕ). o < 256) (λ (o : ℕ). eqb o 10) text bytes) is
read_found text (Err fault) bytes is = tt

pub read_only : (text : List ℕ) (r : Result Rows ExpectationsFault) → ReadsText (λ rows. rows.items) r (expectations_of text) → (rows : List ExpectationLine) → AreExpectations 1 (lines_of text) rows → ReadsText (λ read. read.items) r (Ok rows)
read_only text r is rows are = subst (λ (read : Result (List ExpectationLine) ExpectationsFault). ReadsText (λ v. v.items) r read) (rows_only 1 (lines_of text) rows are) is

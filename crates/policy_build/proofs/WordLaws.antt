-- A word is read exactly from the texts that spell it.
use Rattle.std.proofs.Common.{◌≡◌, ◌↔◌, inl, inr, ℕ, suc, ◌+◌, ◌<◌, ◌≤◌, Bool, true, false, ◌||◌, ◌&&◌, cond, eqb, leb, ltb, List, [], ◌∷◌, ◌++◌, length, take, drop, get_or, Option, Some, None, Result, Ok, Err, refl, sym, ap, ◌∙◌, subst, ⊎_elim, codes, arith}
use Rattle.std.specs.Prelude.{bytes_eq}
use Rattle.std.specs.Bool.{Decides}
use Rattle.std.specs.List.{Contains, list_any, position, position_or_len}
use Rattle.std.specs.Option.{ok_or}
use Rattle.std.proofs.lemmas.Bool.{cases_Bool, false≢true, lt-ltb}
use Rattle.std.proofs.lemmas.Bool.Decides.{Decides-and, Decides-eqb, Decides-like, Decides-ltb, leb_tells, not_from_Decides}
use Rattle.std.proofs.lemmas.List.{drop_more, take-append-drop}
use Rattle.std.proofs.lemmas.List.Quantifiers.{position-Some}
use Rattle.std.proofs.lemmas.Slice.Eq.{bytes_eq-Decides}
use Rattle.dns_names.proofs.ReadingLaws.{absolute_found, absolute_only}
use Rattle.dns_names.proofs.SymbolLaws.{All-parts, IsBytes}
use Rattle.dns_names.specs.Reading.{absolute_name}
use Rattle.dns_names.specs.declared.name_fault.NameFault.{NameFault}
use Rattle.dns_data.specs.Types.{IsCalled}
use Rattle.dns_data.proofs.WordLemmas.{by_word}
use Rattle.grant_policy.specs.declared.action.Action.{Action}
use Rattle.grant_policy.specs.declared.action.Action.TheVariants as action
use Rattle.grant_policy.specs.declared.callers.Callers.{Callers}
use Rattle.grant_policy.specs.declared.callers.Callers.TheVariants.{Every, One as OneCaller}
use Rattle.grant_policy.specs.declared.effect.Effect.{Effect}
use Rattle.grant_policy.specs.declared.effect.Effect.TheVariants.{Grant, Deny}
use Rattle.grant_policy.specs.declared.scope.Scope.{Scope}
use Rattle.grant_policy.specs.declared.scope.Scope.TheVariants as scope
use Rattle.grant_policy.specs.Documents.{SpellsCallers}
use Rattle.grant_policy.specs.Identifiers.{IsIdentifier, is_identifier_octet}
use Rattle.grant_policy.specs.Reading.{is_identifier, type_of}
use Rattle.grant_policy.specs.Words.{action_of, action_text, all_actions, effect_of, effect_text, scope_of, scope_text}
use Rattle.grant_policy.proofs.RuleLemmas.{list_any-Decides}
use Rattle.grant_policy.proofs.WordLemmas.{type_named}
use Rattle.policy_build.specs.declared.build_fault.BuildFault.{BuildFault}
use Rattle.policy_build.specs.declared.build_fault.BuildFault.TheVariants.{BadValue}
use Rattle.policy_build.specs.declared.member.Member.{Member}
use Rattle.policy_build.specs.declared.member.Member.TheVariants.{One, Group}
use Rattle.policy_build.specs.declared.names.Names.{Names}
use Rattle.policy_build.specs.declared.place.Place.{Place}
use Rattle.policy_build.specs.Documents.{SpellsAction, SpellsEffect, SpellsIdentifier, SpellsMember, SpellsNames}
use Rattle.policy_build.specs.Faults.{name_fault, ◌>>=◌}
use Rattle.policy_build.specs.Reading.{action_in, begins_group, callers_in, cut, cut_after, cut_at, effect_in, identifier_in, member_in, name_in, named, names_in, scoped, type_in}
use Rattle.policy_build.proofs.LoopLemmas.{bind_step}
use Rattle.policy_build.proofs.ResolvingLaws.{bind_ok, not_Err, ok_or_ok, same_Ok}

-- what a reading of words finds is spelled so, and what is spelled so is read
abbrev pub FindsWord : {X : Type 0} → (Place → List ℕ → Result X BuildFault) → (X → List ℕ → Type 0) → Type 0
FindsWord {X} word Spells = (place : Place) (text : List ℕ) (x : X) → IsBytes text → word place text ≡ Ok x → Spells x text

abbrev pub TakesWord : {X : Type 0} → (Place → List ℕ → Result X BuildFault) → (X → List ℕ → Type 0) → Type 0
TakesWord {X} word Spells = (place : Place) (text : List ℕ) (x : X) → Spells x text → word place text ≡ Ok x

test_ok : {X : Type 0} (test : Bool) (fault : BuildFault) (r : Result X BuildFault) (x : X) → cond test r (Err fault) ≡ Ok x → (test ≡ true) × (r ≡ Ok x)
test_ok true fault r x e = (refl, e)
test_ok false fault r x e = absurd (not_Err fault x e)

-- ---- identifiers

identifier-Decides : (text : List ℕ) → Decides (is_identifier text) (IsIdentifier text)
identifier-Decides text =
    Decides-like _
    (λ h. record { octets = h.0; not_empty = h.1.0; short = h.1.1 })
    (λ i. (i.octets, (i.not_empty, i.short)))
    (Decides-and _ _ ((λ e. e), (λ e. e)) (Decides-and _ _ (Decides-ltb 0 (length text)) (Decides-leb (length text) 64)))
  where
    Decides-leb : (a b : ℕ) → Decides (leb a b) (a ≤ b)
    Decides-leb a b = elim (leb_tells a b) [ inl t ↦ (λ _. t.1, λ _. t.0) | inr f ↦ (λ e. absurd (false≢true (sym f.0 ∙ e)), λ le. absurd (omega (arith, f.1, le))) ]

pub identifier_found : FindsWord identifier_in SpellsIdentifier
identifier_found place text id bytes e =
    let h = test_ok (is_identifier text) (BadValue place) (Ok text) id e in
    let same = same_Ok text id h.1 in
    (same, subst IsIdentifier same ((identifier-Decides text).0 h.0))

pub identifier_only : TakesWord identifier_in SpellsIdentifier
identifier_only place text id (same, is) = ap (identifier_in place) same ∙ ap (λ b. cond b (Ok id) (Err (BadValue place))) ((identifier-Decides id).1 is)

-- ---- effects, types and actions

effect_own : (t : Effect) → effect_of (effect_text t) ≡ Some t
effect_own Grant = refl
effect_own Deny = refl

scope_own : (t : Scope) → scope_of (scope_text t) ≡ Some t
scope_own scope.Name = refl
scope_own scope.Subtree = refl
scope_own scope.Below = refl

action_own : (t : Action) → action_of (action_text t) ≡ Some t
action_own action.List = refl
action_own action.Check = refl
action_own action.Add = refl
action_own action.Delete = refl
action_own action.Delegate = refl

effect_spelled : (text : List ℕ) (x : Effect) → (effect_of text ≡ Some x) ↔ (effect_text x ≡ text)
effect_spelled text x = by_word effect_text (Grant ∷ Deny ∷ []) effect_own text (effect_of text) refl x

scope_spelled : (text : List ℕ) (x : Scope) → (scope_of text ≡ Some x) ↔ (scope_text x ≡ text)
scope_spelled text x = by_word scope_text (scope.Name ∷ scope.Subtree ∷ scope.Below ∷ []) scope_own text (scope_of text) refl x

action_spelled : (text : List ℕ) (x : Action) → (action_of text ≡ Some x) ↔ (action_text x ≡ text)
action_spelled text x = by_word action_text all_actions action_own text (action_of text) refl x

given : {X : Type 0} (place : Place) (o : Option X) (x : X) → o ≡ Some x → ok_or o (BadValue place) ≡ Ok x
given place o x e = ap (λ p. ok_or p (BadValue place)) e

pub effect_found : FindsWord effect_in SpellsEffect
effect_found place text x bytes e = (effect_spelled text x).0 (ok_or_ok (effect_of text) (BadValue place) x e)

pub effect_only : TakesWord effect_in SpellsEffect
effect_only place text x e = given place (effect_of text) x ((effect_spelled text x).1 e)

pub type_found : FindsWord type_in IsCalled
type_found place text x bytes e = (type_named text x).0 (ok_or_ok (type_of text) (BadValue place) x e)

pub type_only : TakesWord type_in IsCalled
type_only place text x e = given place (type_of text) x ((type_named text x).1 e)

pub action_found : FindsWord action_in SpellsAction
action_found place text x bytes e = (action_spelled text x).0 (ok_or_ok (action_of text) (BadValue place) x e)

pub action_only : TakesWord action_in SpellsAction
action_only place text x e = given place (action_of text) x ((action_spelled text x).1 e)

-- ---- callers

abbrev one_caller : List ℕ → Result Callers BuildFault
one_caller id = Ok (OneCaller id)

no_star : (id : List ℕ) → IsIdentifier id → bytes_eq id (codes "*") ≡ false
no_star id is =
    ⊎_elim
    (λ (yes' : bytes_eq id (codes "*") ≡ true). let e = (bytes_eq-Decides id (codes "*")).0 yes' in absurd (let f = rw e at is.octets in cc))
    (λ (no' : bytes_eq id (codes "*") ≡ false). no')
    (cases_Bool (bytes_eq id (codes "*")))

pub callers_found : FindsWord callers_in SpellsCallers
callers_found place text c bytes e =
    ⊎_elim
    (λ (yes' : bytes_eq text (codes "*") ≡ true).
    let every : Ok Every ≡ Ok c = sym (ap (λ b. cond b (Ok Every) (identifier_in place text >>= one_caller)) yes') ∙ e in
    subst (λ (d : Callers). SpellsCallers d text) (same_Ok Every c every) ((bytes_eq-Decides text (codes "*")).0 yes'))
    (λ (no' : bytes_eq text (codes "*") ≡ false).
    let one = bind_ok (identifier_in place text) one_caller c (sym (ap (λ b. cond b (Ok Every) (identifier_in place text >>= one_caller)) no') ∙ e) in
    subst (λ (d : Callers). SpellsCallers d text) (same_Ok (OneCaller one.0) c one.2) (identifier_found place text one.0 bytes one.1))
    (cases_Bool (bytes_eq text (codes "*")))

pub callers_only : TakesWord callers_in SpellsCallers
callers_only place text Every e = ap (callers_in place) e
callers_only place text (OneCaller id) (same, is) =
    ap (callers_in place) same
    ∙ ap (λ b. cond b (Ok Every) (identifier_in place id >>= one_caller)) (no_star id is)
    ∙ bind_step (identifier_in place id) one_caller id (identifier_only place id id (refl, is))

-- ---- names

abbrev is_space : ℕ → Bool
is_space octet = eqb octet 32

space-Decides : (text : List ℕ) → Decides (list_any is_space text) (Contains text 32)
space-Decides text = list_any-Decides (λ a b. eqb a b) Decides-eqb 32 text

or_none : (a b : Bool) → (a || b) ≡ false → (a ≡ false) × (b ≡ false)
or_none true b e = absurd (false≢true (sym e))
or_none false b e = (refl, e)

abbrev pair : List ℕ → List ℕ → Option (List ℕ × List ℕ)
pair a b = Some (a, b)

same_pair : (p q : List ℕ × List ℕ) → Some p ≡ Some q → p ≡ q
same_pair p q e = cc

-- what is before and after a space is joined by it
cut_joined : (text word rest : List ℕ) → cut text ≡ Some (word, rest) → (text ≡ word ++ 32 ∷ rest) × (¬ Contains rest 32)
cut_joined text word rest e = by (position is_space text) refl e
  where
    of_pair : (i : ℕ) → position is_space text ≡ Some i → (a b : List ℕ) → a ≡ take i text → b ≡ drop (i + 1) text → cut_after a b ≡ Some (word, rest) → (text ≡ word ++ 32 ∷ rest) × (¬ Contains rest 32)
    of_pair i at a b is_a is_b f =
        let p = position-Some is_space text i 0 at in
        let space : get_or text i 0 ≡ 32 = (Decides-eqb (get_or text i 0) 32).0 p.1 in
        let g = some_of (list_any is_space b) a b word rest f in
        let whole : text ≡ a ++ 32 ∷ b =
        sym (take-append-drop i text)
        ∙ ap (λ l. take i text ++ l) (drop_more text i 0 p.0)
        ∙ ap (λ (o : ℕ). take i text ++ o ∷ drop (i + 1) text) space
        ∙ ap (λ l. l ++ 32 ∷ drop (i + 1) text) (sym is_a)
        ∙ ap (λ l. a ++ 32 ∷ l) (sym is_b) in (
          whole ∙ ap (λ l. l ++ 32 ∷ b) g.1 ∙ ap (λ l. word ++ 32 ∷ l) g.2,
          subst (λ (l : List ℕ). ¬ Contains l 32) g.2 (not_from_Decides (list_any is_space b) (space-Decides b) g.0),
        )
      where
        some_of : (test : Bool) (a b word rest : List ℕ) → cond test None (pair a b) ≡ pair word rest → (test ≡ false) × (a ≡ word) × (b ≡ rest)
        some_of true a b word rest e = absurd cc
        some_of false a b word rest e = let same = same_pair (a, b) (word, rest) e in (refl, ap (λ p. p.0) same, ap (λ p. p.1) same)

    by : (o : Option ℕ) → position is_space text ≡ o → cut_at o text ≡ Some (word, rest) → (text ≡ word ++ 32 ∷ rest) × (¬ Contains rest 32)
    by None at f = absurd cc
    by (Some i) at f = of_pair i at (take i text) (drop (i + 1) text) refl refl f

space_after : (word rest : List ℕ) → list_any is_space word ≡ false → position_or_len is_space (word ++ 32 ∷ rest) ≡ length word
space_after [] rest e = refl
space_after (o ∷ word) rest e =
    let both = or_none (is_space o) (list_any is_space word) e in
    rw (both.0, space_after word rest both.1) (omega arith)

joined_cut : (word rest : List ℕ) → list_any is_space word ≡ false → ¬ Contains rest 32 → cut (word ++ 32 ∷ rest) ≡ Some (word, rest)
joined_cut word rest e none =
    let text = word ++ 32 ∷ rest in
    let n = length word in
    let at = space_after word rest e in
    let within : ltb (position_or_len is_space text) (length text) ≡ true = ap (λ (k : ℕ). ltb k (length text)) at ∙ lt-ltb n (length text) (shorter word) in
    let place : position is_space text ≡ Some n = ap (λ b. cond b (Some (position_or_len is_space text)) None) within ∙ ap Some at in
    ap (λ o. cut_at o text) place
    ∙ ap (λ l. cut_after l (drop (n + 1) text)) (taken word)
    ∙ ap (cut_after word) (dropped word)
    ∙ ap (λ b. cond b None (pair word rest)) (free rest none)
  where
    shorter : (word : List ℕ) → length word < length (word ++ 32 ∷ rest)
    shorter [] = omega arith
    shorter (o ∷ word) = omega (arith, shorter word)

    taken : (word : List ℕ) → take (length word) (word ++ 32 ∷ rest) ≡ word
    taken [] = refl
    taken (o ∷ word) = ap (λ l. o ∷ l) (taken word)

    dropped : (word : List ℕ) → drop (length word + 1) (word ++ 32 ∷ rest) ≡ rest
    dropped [] = refl
    dropped (o ∷ word) = let next : suc (length word) + 1 ≡ suc (length word + 1) = omega arith in rw next (dropped word)

    free : (rest : List ℕ) → ¬ Contains rest 32 → list_any is_space rest ≡ false
    free rest none =
        ⊎_elim
        (λ (yes' : list_any is_space rest ≡ true). absurd (none ((space-Decides rest).0 yes')))
        (λ (no' : list_any is_space rest ≡ false). no')
        (cases_Bool (list_any is_space rest))

name_ok : (place : Place) (r : Result (List (List ℕ)) NameFault) (name : List (List ℕ)) → named place r ≡ Ok name → r ≡ Ok name
name_ok place (Ok n) name e = ap (λ (l : List (List ℕ)). Ok l) (same_Ok n name e)
name_ok place (Err fault) name e = absurd (not_Err (name_fault place fault) name e)

abbrev with_name : Place → List ℕ → Scope → Result Names BuildFault
with_name place text s = name_in place text >>= λ at. Ok (record { scope = s; at = at })

pub names_found : FindsWord names_in SpellsNames
names_found place text names bytes e = by (cut text) refl e
  where
    of_pair : (word rest : List ℕ) → cut text ≡ Some (word, rest) → scoped place (Some (word, rest)) ≡ Ok names → SpellsNames names text
    of_pair word rest is f =
        let joined = cut_joined text word rest is in
        let s = bind_ok (ok_or (scope_of word) (BadValue place)) (with_name place rest) names f in
        let n = bind_ok (name_in place rest) (λ at. Ok (record { scope = s.0; at = at })) names s.2 in
        let same = same_Ok (record { scope = s.0; at = n.0 }) names n.2 in
        let word_is : scope_text s.0 ≡ word = (scope_spelled word s.0).0 (ok_or_ok (scope_of word) (BadValue place) s.0 s.1) in
        let rest_bytes : IsBytes rest = (All-parts (λ o. o < 256) word (32 ∷ rest) (subst IsBytes joined.0 bytes)).1.1 in
        let name = absolute_found rest n.0 rest_bytes (name_ok place (absolute_name rest) n.0 n.1) in
        subst (λ (m : Names). SpellsNames m text) same (rest, joined.0 ∙ ap (λ l. l ++ 32 ∷ rest) (sym word_is), joined.1, name.0, name.1)

    by : (o : Option (List ℕ × List ℕ)) → cut text ≡ o → scoped place o ≡ Ok names → SpellsNames names text
    by None is f = absurd (not_Err (BadValue place) names f)
    by (Some p) is f = of_pair p.0 p.1 is f

no_space : (s : Scope) → list_any is_space (scope_text s) ≡ false
no_space scope.Name = refl
no_space scope.Subtree = refl
no_space scope.Below = refl

pub names_only : TakesWord names_in SpellsNames
names_only place text names (at, is, none, name, spelled) =
    let word = scope_text names.scope in
    ap (names_in place) is
    ∙ ap (scoped place) (joined_cut word at (no_space names.scope) none)
    ∙ bind_step (ok_or (scope_of word) (BadValue place)) (with_name place at) names.scope (given place (scope_of word) names.scope (scope_own names.scope))
    ∙ bind_step (name_in place at) (λ n. Ok (record { scope = names.scope; at = n })) names.at (ap (named place) (absolute_only names.at at name spelled))

-- ---- members

-- no word of this kind begins with an `@`
abbrev pub IsPlain : {X : Type 0} → (X → List ℕ → Type 0) → Type 0
IsPlain {X} Spells = (x : X) (text : List ℕ) → Spells x text → begins_group text ≡ false

no_at : (o : ℕ) → is_identifier_octet o ≡ true → eqb o 64 ≡ false
no_at o is =
    ⊎_elim
    (λ (yes' : eqb o 64 ≡ true). let e = (Decides-eqb o 64).0 yes' in absurd (let f = rw e at is in cc))
    (λ (no' : eqb o 64 ≡ false). no')
    (cases_Bool (eqb o 64))

identifier_plain : (id : List ℕ) → IsIdentifier id → begins_group id ≡ false
identifier_plain [] is = refl
identifier_plain (o ∷ os) is = no_at o (first_of (is_identifier_octet o) _ is.octets)
  where
    first_of : (a b : Bool) → (a && b) ≡ true → a ≡ true
    first_of true b e = refl
    first_of false b e = absurd (false≢true e)

pub callers_plain : IsPlain SpellsCallers
callers_plain Every text e = ap begins_group e
callers_plain (OneCaller id) text (same, is) = ap begins_group same ∙ identifier_plain id is

pub names_plain : IsPlain SpellsNames
names_plain names text (at, is, none, name, spelled) = ap begins_group is ∙ plain names.scope
  where
    plain : (s : Scope) → begins_group (scope_text s ++ 32 ∷ at) ≡ false
    plain scope.Name = refl
    plain scope.Subtree = refl
    plain scope.Below = refl

module _ {X : Type 0} (word : Place → List ℕ → Result X BuildFault) (Spells : X → List ℕ → Type 0) where
  abbrev group_of : List ℕ → Result (Member X) BuildFault
  group_of id = Ok (Group id)

  abbrev one_of : X → Result (Member X) BuildFault
  one_of x = Ok (One x)

  abbrev by_head : Bool → Place → List ℕ → Result (Member X) BuildFault
  by_head begins place text = cond begins (identifier_in place (drop 1 text) >>= group_of) (word place text >>= one_of)

  pub member_found : FindsWord word Spells → FindsWord (member_in word) (SpellsMember Spells)
  member_found found place text m bytes e =
      ⊎_elim
      (λ (yes' : begins_group text ≡ true).
      let id = bind_ok (identifier_in place (drop 1 text)) group_of m (sym (ap (λ b. by_head b place text) yes') ∙ e) in
      let is = identifier_found place (drop 1 text) id.0 (rest_bytes text bytes) id.1 in
      subst (λ (n : Member X). SpellsMember Spells n text) (same_Ok (Group id.0) m id.2) (at_sign text yes' ∙ ap (λ l. 64 ∷ l) is.0, is.1))
      (λ (no' : begins_group text ≡ false).
      let x = bind_ok (word place text) one_of m (sym (ap (λ b. by_head b place text) no') ∙ e) in
      subst (λ (n : Member X). SpellsMember Spells n text) (same_Ok (One x.0) m x.2) (found place text x.0 bytes x.1))
      (cases_Bool (begins_group text))
    where
      at_sign : (text : List ℕ) → begins_group text ≡ true → text ≡ 64 ∷ drop 1 text
      at_sign [] e = absurd (false≢true e)
      at_sign (o ∷ os) e = ap (λ (n : ℕ). n ∷ os) ((Decides-eqb o 64).0 e)

      rest_bytes : (text : List ℕ) → IsBytes text → IsBytes (drop 1 text)
      rest_bytes [] bytes = tt
      rest_bytes (o ∷ os) bytes = bytes.1

  pub member_only : IsPlain Spells → TakesWord word Spells → TakesWord (member_in word) (SpellsMember Spells)
  member_only plain takes place text (One x) spelled = ap (λ b. by_head b place text) (plain x text spelled) ∙ bind_step (word place text) one_of x (takes place text x spelled)
  member_only plain takes place text (Group id) (is, identifier) = ap (member_in word place) is ∙ bind_step (identifier_in place id) group_of id (identifier_only place id id (refl, identifier))

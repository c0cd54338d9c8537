-- Between boundaries a policy decides alike.
use Rattle.std.proofs.Common.{◌≡◌, ℕ, zero, suc, arith, not, IsTrue, ◌⊎◌, inl, inr, Bool, true, false, ◌&&◌, cond, List, [], ◌∷◌, ◌++◌, Option, Some, None, refl, sym, ap, ◌∙◌, ⊎_elim}
use Rattle.std.specs.Option.{IfSome}
use Rattle.std.specs.Bool.{Decides}
use Rattle.std.specs.declared.cmp.Ordering.{Ordering}
use Rattle.std.specs.Ordering.{nat_cmp, is_le, is_lt}
use Rattle.std.specs.Cmp.{tied_itself}
use Rattle.std.specs.Cmp.Lexicographic.{slice_cmp, nat_list_cmp_total}
use Rattle.std.proofs.Math.Bool.{and_assoc}
use Rattle.std.proofs.Math.Path.{ap₂}
use Rattle.std.proofs.lemmas.Bool.{cases_Bool, and_parts}
use Rattle.std.proofs.lemmas.Bool.Decides.{Decides-and, Decides-like}
use Rattle.dns_names.specs.Labels.{IsWithin}
use Rattle.dns_names.specs.Keys.{key_of, key_end}
use Rattle.dns_names.proofs.KeyLaws.{three, tied, less, key_ranges, key_unique}
use Rattle.dns_data.specs.declared.record_type.RecordType.{RecordType}
use Rattle.grant_policy.specs.declared.action.Action.{Action}
use Rattle.grant_policy.specs.declared.scope.Scope.{Scope}
use Rattle.grant_policy.specs.declared.scope.Scope.TheVariants.{Name, Subtree, Below}
use Rattle.grant_policy.specs.declared.rule.Rule.{Rule}
use Rattle.grant_policy.specs.Scopes.{covers}
use Rattle.grant_policy.specs.Rules.{is_of, has, same_type, same_action}
use Rattle.grant_policy.specs.Decisions.{Verdict, decided, decision}
use Rattle.grant_policy.specs.Boundaries.{end_in, boundaries_at, boundaries_of, boundaries, is_reached, AreTogether, DecidesAlike}
use Rattle.grant_policy.proofs.ScopeLemmas.{covers-Decides}

abbrev by_octets : List ℕ → List ℕ → Ordering
by_octets = slice_cmp nat_cmp

-- ---- the key after one

no_key_first : (key : List ℕ) → is_le (by_octets [] key) ≡ true
no_key_first [] = refl
no_key_first (k ∷ key) = refl

-- a key that is at least another is that one, or at least the next
next_reached : (key other : List ℕ) → is_reached other key ≡ true → (key ≡ other) ⊎ (is_reached other (key ++ 0 ∷ []) ≡ true)
next_reached [] [] reached = inl refl
next_reached [] (zero ∷ other) reached = inr (no_key_first other)
next_reached [] (suc n ∷ other) reached = inr (rw (less 0 (suc n) (omega arith)) refl)
next_reached (k ∷ key) [] reached = absurd cc
next_reached (k ∷ key) (o ∷ other) reached =
    elim (three k o) [
      | inl l ↦ inr (rw l.0 refl)
      | inr s ↦ elim s [
        | inl e ↦ elim (next_reached key other (rw (e, tied o) at reached)) [
          | inl same ↦ inl (ap (λ (l : List ℕ). k ∷ l) same ∙ ap (λ (n : ℕ). n ∷ other) e)
          | inr r ↦ inr (rw (e, tied o) r)
        ]
        | inr g ↦ absurd (let f = rw g.0 at reached in cc)
      ]
    ]

-- a key does not reach the next
next_unreached : (key : List ℕ) → is_reached key (key ++ 0 ∷ []) ≡ false
next_unreached [] = refl
next_unreached (k ∷ key) = rw (tied k) (next_unreached key)

-- ---- one name, and the names within one

-- a key is a name's exactly where it reaches that, and not the next
abbrev is_same : List (List ℕ) → List ℕ → Bool
is_same at key = is_reached key (key_of at) && not (is_reached key (key_of at ++ 0 ∷ []))

same_by_keys : (at name : List (List ℕ)) → Decides (is_same at (key_of name)) (name ≡ at)
same_by_keys at name = (there, back)
  where
    there : is_same at (key_of name) ≡ true → name ≡ at
    there t =
        let parts = and_parts (is_reached (key_of name) (key_of at)) (not (is_reached (key_of name) (key_of at ++ 0 ∷ []))) t in
        elim (next_reached (key_of at) (key_of name) parts.0) [
          | inl e ↦ key_unique at name (sym e)
          | inr r ↦ absurd (let no = rw r at parts.1 in cc)
        ]

    back : name ≡ at → is_same at (key_of name) ≡ true
    back e = rw (e, ap is_le (tied_itself nat_list_cmp_total (key_of at)), next_unreached (key_of at)) refl

-- a key is in the range of a name
abbrev is_in : Option (List ℕ) → List ℕ → Bool
is_in None key = true
is_in (Some end) key = not (is_reached key end)

-- a key is before an end exactly where it does not reach it
before_or_behind : (key end : List ℕ) → is_lt (by_octets key end) ≡ not (is_reached key end)
before_or_behind [] [] = refl
before_or_behind [] (e ∷ end) = refl
before_or_behind (k ∷ key) [] = refl
before_or_behind (k ∷ key) (e ∷ end) =
    elim (three k e) [
      | inl l ↦ rw (l.0, l.1) refl
      | inr s ↦ elim s [
        | inl same ↦ rw (same, tied e) (before_or_behind key end)
        | inr g ↦ rw (g.0, g.1) refl
      ]
    ]

is_in_end : (end : Option (List ℕ)) (key : List ℕ) → is_in end key ≡ true → IfSome end (λ behind. IsTrue (is_lt (by_octets key behind)))
is_in_end None key t = tt
is_in_end (Some end) key t = before_or_behind key end ∙ t

end_is_in : (end : Option (List ℕ)) (key : List ℕ) → IfSome end (λ behind. IsTrue (is_lt (by_octets key behind))) → is_in end key ≡ true
end_is_in None key t = refl
end_is_in (Some end) key t = sym (before_or_behind key end) ∙ t

within_by_keys : (at name : List (List ℕ)) → Decides (is_reached (key_of name) (key_of at) && is_in (key_end at) (key_of name)) (IsWithin name at)
within_by_keys at name =
    Decides-like _
    (λ (h : (is_reached (key_of name) (key_of at) ≡ true) × (is_in (key_end at) (key_of name) ≡ true)). (key_ranges at name).1 (h.0, is_in_end (key_end at) (key_of name) h.1))
    (λ w. let r = (key_ranges at name).0 w in (r.0, end_is_in (key_end at) (key_of name) r.1))
    (Decides-and _ _ (λ e. e, λ e. e) (λ e. e, λ e. e))

-- ---- rules

-- tests of equal facts are equal
alike : (a b : Bool) {P Q : Type 0} → Decides a P → Decides b Q → (P → Q) → (Q → P) → a ≡ b
alike true true p q there back = refl
alike true false p q there back = sym (q.1 (there (p.0 refl)))
alike false true p q there back = p.1 (back (q.0 refl))
alike false false p q there back = refl

-- between the boundaries of a name another is that name, and within it, where the first is
same_alike : (at name other : List (List ℕ)) → AreTogether (boundaries_at at) (key_of name) (key_of other) → is_same at (key_of name) ≡ is_same at (key_of other)
same_alike at name other (first, (next, rest)) = rw (first, next) refl

in_alike : (end : Option (List ℕ)) (key other : List ℕ) → AreTogether (end_in end) key other → is_in end key ≡ is_in end other
in_alike None key other together = refl
in_alike (Some end) key other together = rw together.0 refl

-- a name is the other where both or neither is at
name_alike : (at name other : List (List ℕ)) → AreTogether (boundaries_at at) (key_of name) (key_of other) → covers Name at name ≡ covers Name at other
name_alike at name other together =
    let same = same_alike at name other together in
    alike (covers Name at name) (covers Name at other) (covers-Decides Name at name) (covers-Decides Name at other)
    (λ p. (same_by_keys at other).0 (sym same ∙ (same_by_keys at name).1 p))
    (λ q. (same_by_keys at name).0 (same ∙ (same_by_keys at other).1 q))

within_alike : (at name other : List (List ℕ)) → AreTogether (boundaries_at at) (key_of name) (key_of other) → covers Subtree at name ≡ covers Subtree at other
within_alike at name other (first, (next, rest)) =
    let same : (is_reached (key_of name) (key_of at) && is_in (key_end at) (key_of name)) ≡ (is_reached (key_of other) (key_of at) && is_in (key_end at) (key_of other)) = rw (first, in_alike (key_end at) (key_of name) (key_of other) rest) refl in
    alike (covers Subtree at name) (covers Subtree at other) (covers-Decides Subtree at name) (covers-Decides Subtree at other)
    (λ p. (within_by_keys at other).0 (sym same ∙ (within_by_keys at name).1 p))
    (λ q. (within_by_keys at name).0 (same ∙ (within_by_keys at other).1 q))

covers_alike : (scope : Scope) (at name other : List (List ℕ)) → AreTogether (boundaries_at at) (key_of name) (key_of other) → covers scope at name ≡ covers scope at other
covers_alike Name at name other together = name_alike at name other together
covers_alike Subtree at name other together = within_alike at name other together
covers_alike Below at name other together = ap₂ (λ (a b : Bool). a && not b) (within_alike at name other together) (name_alike at name other together)

together_first : (bs cs : List (List ℕ)) (key other : List ℕ) → AreTogether (bs ++ cs) key other → AreTogether bs key other × AreTogether cs key other
together_first [] cs key other together = (tt, together)
together_first (b ∷ bs) cs key other together = let rest = together_first bs cs key other together.1 in ((together.0, rest.0), rest.1)

-- whether a rule matches, by whether it is of the caller and covers the name
by_cover : (rule : Rule) (rules : List Rule) (caller : List ℕ) (name other : List (List ℕ)) (record_type : RecordType) (action : Action)
    → (is_of rule.callers caller && covers rule.scope rule.at name) ≡ (is_of rule.callers caller && covers rule.scope rule.at other)
    → decision (record { caller = caller; name = name; record_type = record_type; action = action }) rules ≡ decision (record { caller = caller; name = other; record_type = record_type; action = action }) rules
    → decision (record { caller = caller; name = name; record_type = record_type; action = action }) (rule ∷ rules) ≡ decision (record { caller = caller; name = other; record_type = record_type; action = action }) (rule ∷ rules)
by_cover rule rules caller name other record_type action same rest =
    let others : Bool = has same_type rule.types record_type && has same_action rule.actions action in
    let matched = sym (and_assoc (is_of rule.callers caller) (covers rule.scope rule.at name) others) ∙ ap (λ (b : Bool). b && others) same ∙ and_assoc (is_of rule.callers caller) (covers rule.scope rule.at other) others in
    ap₂ (λ (b : Bool) (v : Verdict). cond b (decided rule) v) matched rest

pub decides_alike : DecidesAlike
decides_alike [] caller name other record_type action together = refl
decides_alike (rule ∷ rules) caller name other record_type action together =
    let both = together_first (boundaries_of caller rule) (boundaries caller rules) (key_of name) (key_of other) together in
    ⊎_elim
    (λ (yes' : is_of rule.callers caller ≡ true).
    by_cover rule rules caller name other record_type action (ap (λ (b : Bool). is_of rule.callers caller && b) (covers_alike rule.scope rule.at name other (rw yes' at both.0))) (decides_alike rules caller name other record_type action both.1))
    (λ (no' : is_of rule.callers caller ≡ false).
    by_cover rule rules caller name other record_type action (rw no' refl) (decides_alike rules caller name other record_type action both.1))
    (cases_Bool (is_of rule.callers caller))

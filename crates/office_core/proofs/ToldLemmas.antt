-- A caller is told exactly the changes of which it sees something, by their numbers.
use Rattle.std.proofs.Common.{◌≡◌, ◌⊎◌, ◌↔◌, ℕ, zero, suc, ◌+◌, ◌<◌, ◌≤◌, List, [], ◌∷◌, ◌++◌, length, get_or, map, Bool, true, false, cond, not, ◌&&◌, ◌==◌, nat_le, if◌then◌else◌, arith, Option, Some, None, inl, inr, refl, sym, ap, subst, ◌∙◌}
use Rattle.std.specs.Prelude.{slice_get, option_map}
use Rattle.std.specs.List.{AllPairs, filter}
use Rattle.std.proofs.lemmas.List.Kept.{AllPairs-cons, AllPairs-filter}
use Rattle.std.proofs.Math.Dec.{eqb-suc-zero}
use Rattle.std.proofs.lemmas.Bool.{leb-true, le-leb}
use Rattle.std.proofs.lemmas.Option.{slice_get-map}
use Rattle.dns_data.specs.declared.record.Record.{Record}
use Rattle.dns_data.specs.Rdata.{type_of}
use Rattle.grant_policy.specs.declared.action.Action.TheVariants as action
use Rattle.grant_policy.specs.declared.rule.Rule.{Rule}
use Rattle.grant_policy.specs.Decisions.{decision}
use Rattle.zone_core.proofs.SetLemmas.{by_cases}
use Rattle.zone_core.specs.Changes.{ChangeOf, is_empty}
use Rattle.office_model.specs.Replies.{NumberedOf}
use Rattle.office_core.specs.Permissions.{question}
use Rattle.office_core.specs.Machine.{may_list, listed, seen_of, seen, numbered, changes_from}
use Rattle.office_core.specs.Promises.{SoMany, IsNth, MayList, SeesSome, AreShown, IsAnsweredAs, ChangesAreExact}
use Rattle.office_core.proofs.FootprintLaws.{In, contained, contains}
use Rattle.office_core.proofs.ListLemmas.{in_filter, if_granted}

-- ---- places in lists

-- what passes a test stands, among all that passes, after as many as pass before it
module _ {X : Type 0} (P : X → Type 0) (p : X → Bool) (tells : (x : X) → (p x ≡ true) ↔ P x) where
  fails : (x : X) → p x ≡ false → ¬ P x
  fails x f has = let bad : true ≡ false = sym ((tells x).1 has) ∙ f in cc

  failing : (x : X) → ¬ P x → p x ≡ false
  failing x has_not = by_cases (p x) (p x ≡ false) (λ t. absurd (has_not ((tells x).0 t))) (λ f. f)

  from_filter : (xs : List X) (k : ℕ) (x : X) → slice_get (filter p xs) k ≡ Some x → IsNth P xs k x
  from_filter [] k x e = absurd cc
  from_filter (y ∷ ys) k x e = by_test (p y) refl k e (λ n. from_filter ys n x)
    where
      by_test : (b : Bool) → p y ≡ b → (n : ℕ) → slice_get (cond b (y ∷ filter p ys) (filter p ys)) n ≡ Some x → ((m : ℕ) → slice_get (filter p ys) m ≡ Some x → IsNth P ys m x) → IsNth P (y ∷ ys) n x
      by_test true t zero is rest = let same : y ≡ x = cc in ([], ys, ap (λ (z : X). z ∷ ys) same, subst P same ((tells y).0 t), refl)
      by_test true t (suc m) is rest =
          let found = rest m is in (y ∷ found.0, found.1, ap (λ (zs : List X). y ∷ zs) found.2, found.3, inl (m, (tells y).0 t, refl, found.4))
      by_test false f n is rest = let found = rest n is in (y ∷ found.0, found.1, ap (λ (zs : List X). y ∷ zs) found.2, found.3, inr (fails y f, found.4))

  to_filter : (before after : List X) (n : ℕ) (x : X) → P x → SoMany P before n → slice_get (filter p (before ++ x ∷ after)) n ≡ Some x
  to_filter [] after n x has none =
      ap (λ (m : ℕ). slice_get (filter p (x ∷ after)) m) none ∙ ap (λ (b : Bool). slice_get (cond b (x ∷ filter p after) (filter p after)) 0) ((tells x).1 has)
  to_filter (y ∷ before) after n x has (inl (m, here, is, rest)) =
      let found : List X = filter p (before ++ x ∷ after) in
      ap (λ (k : ℕ). slice_get (cond (p y) (y ∷ found) found) k) is ∙ ap (λ (b : Bool). slice_get (cond b (y ∷ found) found) (suc m)) ((tells y).1 here)
      ∙ to_filter before after m x has rest
  to_filter (y ∷ before) after n x has (inr (has_not, rest)) =
      let found : List X = filter p (before ++ x ∷ after) in
      ap (λ (b : Bool). slice_get (cond b (y ∷ found) found) n) (failing y has_not) ∙ to_filter before after n x has rest

  pub is_nth : (xs : List X) (k : ℕ) (x : X) → (slice_get (filter p xs) k ≡ Some x) ↔ IsNth P xs k x
  is_nth xs k x = (
    λ e. from_filter xs k x e,
    λ n. subst (λ (ys : List X). slice_get (filter p ys) k ≡ Some x) (sym n.2) (to_filter n.0 n.1 k x n.3 n.4),
  )

-- lists with the same at each place are one
same_places : {X : Type 0} (xs ys : List X) → ((k : ℕ) (x : X) → slice_get xs k ≡ Some x → slice_get ys k ≡ Some x)
    → ((k : ℕ) (x : X) → slice_get ys k ≡ Some x → slice_get xs k ≡ Some x) → xs ≡ ys
same_places [] [] to from = refl
same_places [] (y ∷ ys) to from = let bad : None ≡ Some y = from 0 y refl in absurd cc
same_places (x ∷ xs) [] to from = let bad : None ≡ Some x = to 0 x refl in absurd cc
same_places (x ∷ xs) (y ∷ ys) to from =
    let here : Some y ≡ Some x = to 0 x refl in
    let same : x ≡ y = cc in
    let rest = same_places xs ys (λ k z. to (suc k) z) (λ k z. from (suc k) z) in
    λ i. same i ∷ rest i

some_mapped : {A B : Type 0} (f : A → B) (o : Option A) (b : B) → option_map f o ≡ Some b → (a : A) × (o ≡ Some a) × (f a ≡ b)
some_mapped f None b e = absurd cc
some_mapped f (Some a) b e = (a, refl, cc)

-- ---- numbers

in_numbered : (m : ℕ) (cs : List ChangeOf) (n : NumberedOf) → In n (numbered m cs)
    → (k : ℕ) × (c : ChangeOf) × (slice_get cs k ≡ Some c) × (n.number ≡ m + k) × (n.removed ≡ c.removed) × (n.added ≡ c.added)
in_numbered m [] n i = absurd i
in_numbered m (c ∷ cs) n (inl e) =
    let number : n.number ≡ m = ap (λ q. q.number) (sym e) in
    (0, c, refl, omega arith, ap (λ q. q.removed) (sym e), ap (λ q. q.added) (sym e))
in_numbered m (c ∷ cs) n (inr i) = let rest = in_numbered (suc m) cs n i in (suc rest.0, rest.1, rest.2, omega (arith, rest.3), rest.4, rest.5)

numbered_in : (m : ℕ) (cs : List ChangeOf) (n : NumberedOf) (k : ℕ) (c : ChangeOf) → slice_get cs k ≡ Some c → n.number ≡ m + k → n.removed ≡ c.removed → n.added ≡ c.added
    → In n (numbered m cs)
numbered_in m [] n k c at number removed added = absurd cc
numbered_in m (x ∷ cs) n zero c at number removed added =
    let same : x ≡ c = cc in
    let first : m ≡ n.number = omega arith in
    inl (λ i. record { number = first i; removed = (ap (λ q. q.removed) same ∙ sym removed) i; added = (ap (λ q. q.added) same ∙ sym added) i })
numbered_in m (x ∷ cs) n (suc k) c at number removed added = inr (numbered_in (suc m) cs n k c at (omega arith) removed added)

-- numbers rise
above : (m : ℕ) (cs : List ChangeOf) (k : ℕ) (d : NumberedOf) → k < length (numbered m cs) → m ≤ (get_or (numbered m cs) k d).number
above m [] k d lt = absurd (omega arith)
above m (c ∷ cs) zero d lt = omega arith
above m (c ∷ cs) (suc k) d lt = let later = above (suc m) cs k d (omega arith) in omega arith

rising : (m : ℕ) (cs : List ChangeOf) → AllPairs (λ (a b : NumberedOf). a.number < b.number) (numbered m cs)
rising m [] = λ i j d before inside. absurd (omega arith)
rising m (c ∷ cs) =
    AllPairs-cons (λ (a b : NumberedOf). a.number < b.number) (record { number = m; removed = c.removed; added = c.added }) (numbered (suc m) cs)
    (λ k d lt. let later = above (suc m) cs k d lt in omega arith) (rising (suc m) cs)

from_on : (from n : ℕ) → (nat_le from n ≡ true) ↔ (from ≤ n)
from_on from n = (leb-true from n, le-leb from n)

-- ---- what a caller sees

some_in : (a b : List Record) → not ((length a == 0) && (length b == 0)) ≡ true → (r : Record) × (In r a ⊎ In r b)
some_in (r ∷ a) b e = (r, inl (inl refl))
some_in [] (r ∷ b) e = (r, inr (inl refl))
some_in [] [] e = absurd cc

in_some : (a b : List Record) (r : Record) → In r a ⊎ In r b → not ((length a == 0) && (length b == 0)) ≡ true
in_some (x ∷ a) b r i = ap (λ (c : Bool). not (c && (length b == 0))) (eqb-suc-zero (length a))
in_some [] (x ∷ b) r i = ap not (eqb-suc-zero (length b))
in_some [] [] r (inl i) = absurd i
in_some [] [] r (inr i) = absurd i

module _ (rules : List Rule) (caller : List ℕ) where
  may : (r : Record) → (may_list rules caller r ≡ true) ↔ MayList rules caller r
  may r = if_granted (decision (question caller r.owner (type_of r.rdata) action.List) rules)

  in_listed : (rs : List Record) (r : Record) → In r (listed rules caller rs) ↔ (In r rs × MayList rules caller r)
  in_listed rs r =
      let there = in_filter (may_list rules caller) rs r in (
        λ i. let both = there.0 i in (both.0, (may r).0 both.1),
        λ both. there.1 (both.0, (may r).1 both.1),
      )

  shown : (rs : List Record) → AreShown rules caller rs (listed rules caller rs)
  shown rs = is_nth (MayList rules caller) (may_list rules caller) may rs

  shown_are : (rs some : List Record) → AreShown rules caller rs some → some ≡ listed rules caller rs
  shown_are rs some are = same_places some (listed rules caller rs) (λ k r e. (shown rs k r).1 ((are k r).0 e)) (λ k r e. (are k r).1 ((shown rs k r).0 e))

  -- whether it sees something of a change
  abbrev sees : ChangeOf → Bool
  sees c = not (is_empty (seen_of rules caller c))

  sees_some : (c : ChangeOf) → (sees c ≡ true) ↔ SeesSome rules caller c
  sees_some c = (
    λ e. of_some (some_in (listed rules caller c.removed) (listed rules caller c.added) e),
    λ s. in_some (listed rules caller c.removed) (listed rules caller c.added) s.0 (elim (s.1) [
      | inl i ↦ inl ((in_listed c.removed s.0).1 (contained c.removed s.0 i, s.2))
      | inr i ↦ inr ((in_listed c.added s.0).1 (contained c.added s.0 i, s.2))
    ]),
  )
    where
      of_some : ((r : Record) × (In r (listed rules caller c.removed) ⊎ In r (listed rules caller c.added))) → SeesSome rules caller c
      of_some (r, inl i) = let both = (in_listed c.removed r).0 i in (r, inl (contains c.removed r both.0), both.1)
      of_some (r, inr i) = let both = (in_listed c.added r).0 i in (r, inr (contains c.added r both.0), both.1)

  seen_is : (cs : List ChangeOf) → seen rules caller cs ≡ map (seen_of rules caller) (filter sees cs)
  seen_is [] = refl
  seen_is (c ∷ cs) = by_test (is_empty (seen_of rules caller c)) (seen_is cs)
    where
      by_test : (b : Bool) → seen rules caller cs ≡ map (seen_of rules caller) (filter sees cs)
          → (if b then [] else seen_of rules caller c ∷ []) ++ seen rules caller cs ≡ map (seen_of rules caller) (cond (not b) (c ∷ filter sees cs) (filter sees cs))
      by_test true rest = rest
      by_test false rest = ap (λ (l : List ChangeOf). seen_of rules caller c ∷ l) rest

  -- ---- what it is answered

  seen_at : (cs : List ChangeOf) (k : ℕ) → slice_get (seen rules caller cs) k ≡ option_map (seen_of rules caller) (slice_get (filter sees cs) k)
  seen_at cs k = ap (λ (l : List ChangeOf). slice_get l k) (seen_is cs) ∙ slice_get-map (seen_of rules caller) (filter sees cs) k

  told : (cs : List ChangeOf) (n : NumberedOf) → In n (numbered 1 (seen rules caller cs)) → IsAnsweredAs rules caller cs n
  told cs n i =
      let at = in_numbered 1 (seen rules caller cs) n i in
      let found = some_mapped (seen_of rules caller) (slice_get (filter sees cs) at.0) at.1 (sym (seen_at cs at.0) ∙ at.2) in
      record {
        change = found.0;
        earlier = at.0;
        place = (is_nth (SeesSome rules caller) sees sees_some cs at.0 found.0).0 found.1;
        number = omega (arith, at.3);
        removed = subst (AreShown rules caller found.0.removed) (ap (λ q. q.removed) found.2 ∙ sym at.4) (shown found.0.removed);
        added = subst (AreShown rules caller found.0.added) (ap (λ q. q.added) found.2 ∙ sym at.5) (shown found.0.added);
      }

  is_told : (cs : List ChangeOf) (n : NumberedOf) → IsAnsweredAs rules caller cs n → In n (numbered 1 (seen rules caller cs))
  is_told cs n t =
      let found = (is_nth (SeesSome rules caller) sees sees_some cs t.earlier t.change).1 t.place in
      numbered_in 1 (seen rules caller cs) n t.earlier (seen_of rules caller t.change) (seen_at cs t.earlier ∙ ap (option_map (seen_of rules caller)) found)
      (omega (arith, t.number)) (shown_are t.change.removed n.removed t.removed) (shown_are t.change.added n.added t.added)

pub changes_are_exact : ChangesAreExact
changes_are_exact rules caller from cs =
    let all : List NumberedOf = numbered 1 (seen rules caller cs) in
    let not_below : NumberedOf → Bool = λ (c : NumberedOf). nat_le from c.number in
    record {
      order = AllPairs-filter (λ (a b : NumberedOf). a.number < b.number) not_below all (rising 1 (seen rules caller cs));
      exactly = λ n.
          let there = in_filter not_below all n in (
            λ c. let both = there.0 (contained (changes_from rules caller from cs) n c) in ((from_on from n.number).0 both.1, told rules caller cs n both.0),
            λ both. contains (changes_from rules caller from cs) n (there.1 (is_told rules caller cs n both.1, (from_on from n.number).1 both.0)),
          );
    }

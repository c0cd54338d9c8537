-- The indexes of the updates that may have made a change, among those of the updates that act at a name of it.
use Rattle.std.proofs.Common.{◌≡◌, ◌↔◌, ℕ, zero, suc, ◌+◌, ◌<◌, List, [], ◌∷◌, ◌++◌, length, take, get_or, Bool, true, false, cond, ◌||◌, if◌then◌else◌, ◌⊎◌, inl, inr, Option, Some, refl, sym, ap, subst, ◌∙◌, arith, append-nil}
use Rattle.std.specs.Prelude.{slice_get, Vec}
use Rattle.std.specs.List.{AllByRecursion}
use Rattle.std.specs.List.Sorted.{IsStrictlyIncreasing}
use Rattle.std.specs.Option.{option_map_or}
use Rattle.std.specs.Map.{lookup}
use Rattle.std.specs.BTreeMap.{BTreeMap, is_at}
use Rattle.std.specs.BTreeMap as tree
use Rattle.std.proofs.lemmas.List.{take_more, length-take-le}
use Rattle.std.proofs.lemmas.List.Folds.{list_any_more}
use Rattle.dns_names.specs.Order.{canonical_cmp, same_name, same_name_equiv}
use Rattle.zone_core.specs.declared.update.Operation.{Operation}
use Rattle.zone_core.specs.Updates.{UpdateOf, IsUpdate, acted_name}
use Rattle.zone_core.specs.Zones.{ZoneOf}
use Rattle.zone_core.specs.Changes.{ChangeOf}
use Rattle.zone_core.proofs.MetLemmas.{Among, among_of, of_among}
use Rattle.zone_core.proofs.SetLemmas.{by_cases, name_is, name_self}
use Rattle.zone_core.proofs.UnmetLemmas.{at_each}
use Rattle.zone_tools.specs.Makers.{MayHaveMade, AreMakers}
use Rattle.zone_tools.specs.Past.{acts_at, actors_from, actors_at, touched_name}
use Rattle.zone_tools.proofs.TouchLemmas.{acts_there}

abbrev Labels : Type 0
Labels = List (List ℕ)

-- ---- the indexes that are held under names

-- the indexes of a list that may be there
abbrev pub items_in : {A : Type 0} → Option (Vec ℕ A) → List ℕ
items_in o = option_map_or (λ indexes. indexes.items) o []

-- an empty map has no actors
pub no_actors : {A : Type 0} (m : BTreeMap Labels (Vec ℕ A)) → m.entries ≡ [] → (q : Labels) → actors_at m q ≡ []
no_actors {A} m none q = ap (λ (es : List (Labels × Vec ℕ A)). items_in (lookup (is_at (canonical_cmp q)) es)) none

-- an index more under a name, in whatever map
pub actor_added : {A : Type 0} (m n : BTreeMap Labels (Vec ℕ A)) (name : Labels) (index : ℕ) (all : Vec ℕ A) → all.items ≡ actors_at m name ++ index ∷ []
    → ((q : Labels) → tree.get canonical_cmp n q ≡ cond (same_name name q) (Some all) (tree.get canonical_cmp m q))
    → (q : Labels) → actors_at n q ≡ (if same_name name q then actors_at m q ++ index ∷ [] else actors_at m q)
actor_added {A} m n name index all are outer q = ap (λ (o : Option (Vec ℕ A)). option_map_or (λ (indexes : Vec ℕ A). indexes.items) o []) (outer q) ∙ by_cases (same_name name q) (Goal (same_name name q)) here there
  where
    Goal : Bool → Type 0
    Goal b = option_map_or (λ (indexes : Vec ℕ A). indexes.items) (cond b (Some all) (tree.get canonical_cmp m q)) [] ≡ (if b then actors_at m q ++ index ∷ [] else actors_at m q)

    here : same_name name q ≡ true → Goal (same_name name q)
    here t = subst Goal (sym t) (are ∙ ap (λ p. actors_at m p ++ index ∷ []) (name_is name q t))

    there : same_name name q ≡ false → Goal (same_name name q)
    there f = subst Goal (sym f) refl

-- ---- the names of one update

-- what is added at a name by the first operations
abbrev pub once : Bool → ℕ → List ℕ
once b index = if b then index ∷ [] else []

or_true : (b : Bool) → (b || true) ≡ true
or_true true = refl
or_true false = refl

or_false : (b : Bool) → (b || false) ≡ b
or_false true = refl
or_false false = refl

module _ (index : ℕ) (q : Labels) (ops : List Operation) (i : ℕ) (op : Operation) (was now next : List ℕ) (below : i < length ops) (is : op ≡ get_or ops i op) (so_far : now ≡ was ++ once (acts_at q (take i ops)) index) where
  more : acts_at q (take (i + 1) ops) ≡ (acts_at q (take i ops) || same_name q (acted_name op))
  more = list_any_more (λ x. same_name q (acted_name x)) ops i op below ∙ ap (λ x. acts_at q (take i ops) || same_name q (acted_name x)) (sym is)

  -- an operation at a name at which one before it acts
  pub name_again : acts_at (acted_name op) (take i ops) ≡ true → now ≡ was ++ once (acts_at q (take (i + 1) ops)) index
  name_again again = so_far ∙ ap (λ b. was ++ once b index) (sym (more ∙ by_cases (same_name q (acted_name op)) _ here there))
    where
      here : same_name q (acted_name op) ≡ true → (acts_at q (take i ops) || same_name q (acted_name op)) ≡ acts_at q (take i ops)
      here t = ap (λ b. acts_at q (take i ops) || b) t ∙ or_true (acts_at q (take i ops)) ∙ sym (ap (λ p. acts_at p (take i ops)) (name_is q (acted_name op) t) ∙ again)

      there : same_name q (acted_name op) ≡ false → (acts_at q (take i ops) || same_name q (acted_name op)) ≡ acts_at q (take i ops)
      there f = ap (λ b. acts_at q (take i ops) || b) f ∙ or_false (acts_at q (take i ops))

  -- and one at a new name
  pub name_new : acts_at (acted_name op) (take i ops) ≡ false → next ≡ (if same_name (acted_name op) q then now ++ index ∷ [] else now) → next ≡ was ++ once (acts_at q (take (i + 1) ops)) index
  name_new new added = added ∙ by_cases (same_name (acted_name op) q) _ here there
    where
      here : same_name (acted_name op) q ≡ true → (if same_name (acted_name op) q then now ++ index ∷ [] else now) ≡ was ++ once (acts_at q (take (i + 1) ops)) index
      here t =
          let one : acted_name op ≡ q = name_is (acted_name op) q t in
          let none : acts_at q (take i ops) ≡ false = ap (λ p. acts_at p (take i ops)) (sym one) ∙ new in
          let first : now ≡ was = so_far ∙ ap (λ b. was ++ once b index) none ∙ append-nil was in
          let both : acts_at q (take (i + 1) ops) ≡ true =
          more ∙ ap (λ b. acts_at q (take i ops) || b) (ap (λ p. same_name q p) one ∙ name_self q) ∙ or_true (acts_at q (take i ops)) in
          ap (λ b. if b then now ++ index ∷ [] else now) t ∙ ap (λ xs. xs ++ index ∷ []) first ∙ ap (λ b. was ++ once b index) (sym both)

      there : same_name (acted_name op) q ≡ false → (if same_name (acted_name op) q then now ++ index ∷ [] else now) ≡ was ++ once (acts_at q (take (i + 1) ops)) index
      there f =
          ap (λ b. if b then now ++ index ∷ [] else now) f ∙ so_far
          ∙ ap (λ b. was ++ once b index) (sym (more ∙ ap (λ b. acts_at q (take i ops) || b) (same_name_equiv.symm q (acted_name op) ∙ f) ∙ or_false (acts_at q (take i ops))))

-- ---- the names of all updates

actors_push : (q : Labels) (n : ℕ) (us : List UpdateOf) (u : UpdateOf) → actors_from q n (us ++ u ∷ []) ≡ actors_from q n us ++ once (acts_at q u.operations) (n + length us)
actors_push q n [] u = let same : n ≡ n + 0 = omega arith in ap (once (acts_at q u.operations)) same
actors_push q n (x ∷ us) u =
    let same : n + 1 + length us ≡ n + length (x ∷ us) = omega arith in
    by_test (acts_at q x.operations) (actors_push q (n + 1) us u ∙ ap (λ m. actors_from q (n + 1) us ++ once (acts_at q u.operations) m) same)
  where
    by_test : (b : Bool) → actors_from q (n + 1) (us ++ u ∷ []) ≡ actors_from q (n + 1) us ++ once (acts_at q u.operations) (n + length (x ∷ us))
        → (if b then n ∷ actors_from q (n + 1) (us ++ u ∷ []) else actors_from q (n + 1) (us ++ u ∷ []))
        ≡ (if b then n ∷ actors_from q (n + 1) us else actors_from q (n + 1) us) ++ once (acts_at q u.operations) (n + length (x ∷ us))
    by_test true e = ap (λ xs. n ∷ xs) e
    by_test false e = e

-- those of one update more
pub actors_more : (q : Labels) (us : List UpdateOf) (i : ℕ) (u : UpdateOf) (now next : List ℕ) → i < length us → u ≡ get_or us i u → now ≡ actors_from q 0 (take i us) → next ≡ now ++ once (acts_at q u.operations) i
    → next ≡ actors_from q 0 (take (i + 1) us)
actors_more q us i u now next below is so_far added =
    let count : 0 + length (take i us) ≡ i = omega (arith, length-take-le i us (omega (arith, below))) in
    added ∙ ap (λ xs. xs ++ once (acts_at q u.operations) i) so_far
    ∙ sym (ap (actors_from q 0) (take_more us i u below ∙ ap (λ x. take i us ++ x ∷ []) (sym is)) ∙ actors_push q 0 (take i us) u ∙ ap (λ m. actors_from q 0 (take i us) ++ once (acts_at q u.operations) m) count)

-- what holds of each of the first elements, and of the next
pub all_taken : {X : Type 0} (P : X → Type 0) (xs : List X) (i : ℕ) (x : X) → i < length xs → x ≡ get_or xs i x → P x → AllByRecursion P (take i xs) → AllByRecursion P (take (i + 1) xs)
all_taken {X} P xs i x below is here so_far = subst (AllByRecursion P) (sym (take_more xs i x below ∙ ap (λ y. take i xs ++ y ∷ []) (sym is))) (joined (take i xs) so_far)
  where
    joined : (ys : List X) → AllByRecursion P ys → AllByRecursion P (ys ++ x ∷ [])
    joined [] all = (here, tt)
    joined (y ∷ ys) all = (all.0, joined ys all.1)

-- each index is one of an update
actors_below : (q : Labels) (n : ℕ) (us : List UpdateOf) → AllByRecursion (λ i. i < n + length us) (actors_from q n us)
actors_below q n [] = tt
actors_below q n (x ∷ us) =
    let same : n + 1 + length us ≡ n + length (x ∷ us) = omega arith in
    by_test (acts_at q x.operations) (subst (λ m. AllByRecursion (λ i. i < m) (actors_from q (n + 1) us)) same (actors_below q (n + 1) us))
  where
    by_test : (b : Bool) → AllByRecursion (λ i. i < n + length (x ∷ us)) (actors_from q (n + 1) us) → AllByRecursion (λ i. i < n + length (x ∷ us)) (if b then n ∷ actors_from q (n + 1) us else actors_from q (n + 1) us)
    by_test true rest = (omega arith, rest)
    by_test false rest = rest

at_place : (P : ℕ → Type 0) (xs : List ℕ) (i d : ℕ) → i < length xs → AllByRecursion P xs → P (get_or xs i d)
at_place P [] i d below all = absurd (omega (arith, below))
at_place P (x ∷ xs) zero d below all = all.0
at_place P (x ∷ xs) (suc i) d below all = at_place P xs i d (omega (arith, below)) all.1

actor_below : (q : Labels) (us : List UpdateOf) (i d : ℕ) → i < length (actors_from q 0 us) → get_or (actors_from q 0 us) i d < length us
actor_below q us i d below = let lt : get_or (actors_from q 0 us) i d < 0 + length us = at_place (λ j. j < 0 + length us) (actors_from q 0 us) i d below (actors_below q 0 us) in omega arith

pub actor_within : (q : Labels) (us : List UpdateOf) (actors : List ℕ) → actors ≡ actors_from q 0 us → (i : ℕ) → i < length actors → get_or actors i 0 < length us
actor_within q us actors are i below =
    subst (λ (xs : List ℕ). get_or xs i 0 < length us) (sym are) (actor_below q us i 0 (subst (λ (xs : List ℕ). i < length xs) are below))

-- each update that acts at the name is there
actors_have : (q : Labels) (n : ℕ) (us : List UpdateOf) (i : ℕ) (u : UpdateOf) → slice_get us i ≡ Some u → acts_at q u.operations ≡ true → Among (n + i) (actors_from q n us)
actors_have q n [] i u e acts = absurd cc
actors_have q n (x ∷ us) zero u e acts =
    let one : x ≡ u = cc in
    let t : acts_at q x.operations ≡ true = ap (λ (w : UpdateOf). acts_at q w.operations) one ∙ acts in
    let first : n + 0 ≡ n = omega arith in
    subst (λ b. Among (n + 0) (if b then n ∷ actors_from q (n + 1) us else actors_from q (n + 1) us)) (sym t) (inl first)
actors_have q n (x ∷ us) (suc i) u e acts =
    let same : n + 1 + i ≡ n + suc i = omega arith in
    by_test (acts_at q x.operations) (subst (λ m. Among m (actors_from q (n + 1) us)) same (actors_have q (n + 1) us i u e acts))
  where
    by_test : (b : Bool) → Among (n + suc i) (actors_from q (n + 1) us) → Among (n + suc i) (if b then n ∷ actors_from q (n + 1) us else actors_from q (n + 1) us)
    by_test true a = inr a
    by_test false a = a

-- ---- numbers in ascending order

abbrev Rising : List ℕ → Type 0
Rising [] = Unit {0}
Rising (x ∷ xs) = AllByRecursion (λ y. x < y) xs × Rising xs

rising_at : (xs : List ℕ) → Rising xs → (k : ℕ) → suc k < length xs → get_or xs k 0 < get_or xs (suc k) 0
rising_at [] rising k below = absurd (omega (arith, below))
rising_at (x ∷ []) rising k below = absurd (omega (arith, below))
rising_at (x ∷ y ∷ xs) rising zero below = rising.0.0
rising_at (x ∷ y ∷ xs) rising (suc k) below = rising_at (y ∷ xs) rising.1 k (omega (arith, below))

rising_is : (xs : List ℕ) → Rising xs → IsStrictlyIncreasing xs
rising_is xs rising k below = let next : suc k ≡ k + 1 = omega arith in subst (λ (j : ℕ). get_or xs k 0 < get_or xs j 0) next (rising_at xs rising k (omega (arith, below)))

from_above : (m n : ℕ) (q : Labels) (us : List UpdateOf) → m < n → AllByRecursion (λ i. m < i) (actors_from q n us)
from_above m n q [] lt = tt
from_above m n q (x ∷ us) lt = by_test (acts_at q x.operations) (from_above m (n + 1) q us (omega (arith, lt)))
  where
    by_test : (b : Bool) → AllByRecursion (λ i. m < i) (actors_from q (n + 1) us) → AllByRecursion (λ i. m < i) (if b then n ∷ actors_from q (n + 1) us else actors_from q (n + 1) us)
    by_test true all = (lt, all)
    by_test false all = all

actors_rise : (q : Labels) (n : ℕ) (us : List UpdateOf) → Rising (actors_from q n us)
actors_rise q n [] = tt
actors_rise q n (x ∷ us) = by_test (acts_at q x.operations) (actors_rise q (n + 1) us)
  where
    by_test : (b : Bool) → Rising (actors_from q (n + 1) us) → Rising (if b then n ∷ actors_from q (n + 1) us else actors_from q (n + 1) us)
    by_test true rest = (from_above n (n + 1) q us (omega arith), rest)
    by_test false rest = rest

-- ---- those that are chosen

-- the numbers of a list of which something is so, in order
abbrev pub Chosen : (ℕ → Type 0) → List ℕ → List ℕ → Type 0
Chosen Q [] ys = ys ≡ []
Chosen Q (x ∷ xs) ys = ((Q x → ⊥) × Chosen Q xs ys) ⊎ (Q x × ((zs : List ℕ) × (ys ≡ x ∷ zs) × Chosen Q xs zs))

module _ (Q : ℕ → Type 0) where
  pub chosen_push : (xs ys : List ℕ) (x : ℕ) → Q x → Chosen Q xs ys → Chosen Q (xs ++ x ∷ []) (ys ++ x ∷ [])
  chosen_push [] ys x so c = inr (so, ([], ap (λ zs. zs ++ x ∷ []) c, refl))
  chosen_push (w ∷ xs) ys x so c =
      (elim c [ inl off ↦ inl (off.0, chosen_push xs ys x so off.1) | inr has ↦ inr (has.0, (has.1.0 ++ x ∷ [], ap (λ zs. zs ++ x ∷ []) has.1.1, chosen_push xs has.1.0 x so has.1.2)) ])

  pub chosen_skip : (xs ys : List ℕ) (x : ℕ) → (Q x → ⊥) → Chosen Q xs ys → Chosen Q (xs ++ x ∷ []) ys
  chosen_skip [] ys x not_so c = inl (not_so, c)
  chosen_skip (w ∷ xs) ys x not_so c =
      (elim c [ inl off ↦ inl (off.0, chosen_skip xs ys x not_so off.1) | inr has ↦ inr (has.0, (has.1.0, has.1.1, chosen_skip xs has.1.0 x not_so has.1.2)) ])

  chosen_all : (P : ℕ → Type 0) (xs ys : List ℕ) → AllByRecursion P xs → Chosen Q xs ys → AllByRecursion P ys
  chosen_all P [] ys all c = subst (AllByRecursion P) (sym c) tt
  chosen_all P (x ∷ xs) ys all c =
      (elim c [ inl off ↦ chosen_all P xs ys all.1 off.1 | inr has ↦ subst (AllByRecursion P) (sym has.1.1) (all.0, chosen_all P xs has.1.0 all.1 has.1.2) ])

  chosen_rise : (xs ys : List ℕ) → Rising xs → Chosen Q xs ys → Rising ys
  chosen_rise [] ys rising c = subst Rising (sym c) tt
  chosen_rise (x ∷ xs) ys rising c =
      (elim c [ inl off ↦ chosen_rise xs ys rising.1 off.1 | inr has ↦ subst Rising (sym has.1.1) (chosen_all (λ y. x < y) xs has.1.0 rising.0 has.1.2, chosen_rise xs has.1.0 rising.1 has.1.2) ])

  chosen_among : (xs ys : List ℕ) → Chosen Q xs ys → (i : ℕ) → Among i ys ↔ (Among i xs × Q i)
  chosen_among [] ys c i = (λ a. absurd (subst (Among i) c a), λ a. absurd a.0)
  chosen_among (x ∷ xs) ys c i = (elim c [ inl off ↦ skipped off.0 (chosen_among xs ys off.1 i) | inr has ↦ taken has.0 has.1.0 has.1.1 (chosen_among xs has.1.0 has.1.2 i) ])
    where
      skipped : (Q x → ⊥) → Among i ys ↔ (Among i xs × Q i) → Among i ys ↔ (Among i (x ∷ xs) × Q i)
      skipped not_so rest = (
        λ a. let both = rest.0 a in (inr both.0, both.1),
        λ both. (elim (both.0) [ inl e ↦ absurd (not_so (subst Q e both.1)) | inr later ↦ rest.1 (later, both.1) ]),
      )

      taken : Q x → (zs : List ℕ) → ys ≡ x ∷ zs → Among i zs ↔ (Among i xs × Q i) → Among i ys ↔ (Among i (x ∷ xs) × Q i)
      taken so zs are rest = (
        λ a. by_place (subst (Among i) are a),
        λ both. subst (Among i) (sym are) (elim (both.0) [ inl e ↦ inl e | inr later ↦ inr (rest.1 (later, both.1)) ]),
      )
        where
          by_place : Among i (x ∷ zs) → Among i (x ∷ xs) × Q i
          by_place a = (elim a [ inl e ↦ (inl e, subst Q (sym e) so) | inr later ↦ (let both = rest.0 later in (inr both.0, both.1)) ])

  -- those of one number more
  pub chosen_in : (xs ys zs : List ℕ) (i : ℕ) → i < length xs → Q (get_or xs i 0) → zs ≡ ys ++ get_or xs i 0 ∷ [] → Chosen Q (take i xs) ys → Chosen Q (take (i + 1) xs) zs
  chosen_in xs ys zs i below so are c =
      subst (λ (ws : List ℕ). Chosen Q ws zs) (sym (take_more xs i 0 below)) (subst (Chosen Q (take i xs ++ get_or xs i 0 ∷ [])) (sym are) (chosen_push (take i xs) ys (get_or xs i 0) so c))

  pub chosen_out : (xs ys : List ℕ) (i : ℕ) → i < length xs → (Q (get_or xs i 0) → ⊥) → Chosen Q (take i xs) ys → Chosen Q (take (i + 1) xs) ys
  chosen_out xs ys i below not_so c = subst (λ (ws : List ℕ). Chosen Q ws ys) (sym (take_more xs i 0 below)) (chosen_skip (take i xs) ys (get_or xs i 0) not_so c)

-- ---- the makers of a change

-- the update of an index may have made a change of the zone that it finds
abbrev pub Makes : (UpdateOf → ZoneOf) → List UpdateOf → ChangeOf → ℕ → Type 0
Makes zone updates change i = (update : UpdateOf) × (slice_get updates i ≡ Some update) × MayHaveMade (zone update) update change

get_at : (us : List UpdateOf) (i : ℕ) (u : UpdateOf) → i < length us → u ≡ get_or us i u → slice_get us i ≡ Some u
get_at [] i u below is = absurd (omega (arith, below))
get_at (x ∷ us) zero u below is = ap (λ (w : UpdateOf). Some w) (sym is)
get_at (x ∷ us) (suc i) u below is = get_at us i u (omega (arith, below)) is

-- whether it may is what is told of the update
pub makes_at : (zone : UpdateOf → ZoneOf) (updates : List UpdateOf) (change : ChangeOf) (i : ℕ) (u : UpdateOf) (b : Bool) → i < length updates → u ≡ get_or updates i u
    → (b ≡ true) ↔ MayHaveMade (zone u) u change → (b ≡ true) ↔ Makes zone updates change i
makes_at zone updates change i u b below is told = (
  λ t. (u, get_at updates i u below is, told.0 t),
  λ makes. let one : makes.0 ≡ u = some_one makes.0 u (sym makes.1 ∙ get_at updates i u below is) in told.1 (subst (λ (w : UpdateOf). MayHaveMade (zone w) w change) one makes.2),
)
  where
    some_one : (x y : UpdateOf) → Some x ≡ Some y → x ≡ y
    some_one x y e = cc

-- of those that act at a name of the change the chosen ones are all that may have made it
pub makers_are : (zone : UpdateOf → ZoneOf) (origin : Labels) (updates : List UpdateOf) (change : ChangeOf) (actors indexes : List ℕ) → ((u : UpdateOf) → (zone u).origin ≡ origin) → AllByRecursion IsUpdate updates
    → actors ≡ actors_from (touched_name origin change) 0 updates → Chosen (Makes zone updates change) actors indexes → AreMakers zone updates change indexes
makers_are zone origin updates change actors indexes home all are chosen =
    let q : Labels = touched_name origin change in
    let these : Chosen (Makes zone updates change) (actors_from q 0 updates) indexes = subst (λ xs. Chosen (Makes zone updates change) xs indexes) are chosen in
    record {
      ascending = rising_is indexes (chosen_rise (Makes zone updates change) (actors_from q 0 updates) indexes (actors_rise q 0 updates) these);
      exact = λ i. let both = chosen_among (Makes zone updates change) (actors_from q 0 updates) indexes these i in
          (λ has. (both.0 (among_of indexes i has)).1, λ makes. of_among indexes i (both.1 (there i makes, makes)));
    }
  where
    there : (i : ℕ) → Makes zone updates change i → Among i (actors_from (touched_name origin change) 0 updates)
    there i (u, here, may) =
        let acts : acts_at (touched_name origin change) u.operations ≡ true =
        subst (λ (o : Labels). acts_at (touched_name o change) u.operations ≡ true) (home u) (acts_there (zone u) u change (at_each IsUpdate updates i u all here) may) in
        let count : 0 + i ≡ i = omega arith in
        subst (λ m. Among m (actors_from (touched_name origin change) 0 updates)) count (actors_have (touched_name origin change) 0 updates i u here acts)

-- The places of names, and the slots of prerequisites.
use Rattle.std.proofs.Common.{true≢false, eqb-true, Vec, Bor, set, ◌==◌, ◌≡◌, ℕ, zero, suc, ◌+◌, ◌<◌, ◌≤◌, List, [], ◌∷◌, ◌++◌, length, get_or, take, map, Bool, true, false, cond, arith, Option, Some, None, refl, sym, ap, ap₂, ◌∙◌, subst}
use Rattle.std.proofs.lemmas.List.{map_more, map-set, map-append, get_or-set_same, get_or-set_other}
use Rattle.std.specs.Prelude.{if◌then◌else◌, is_some}
use Rattle.std.specs.List.{filter, position_from, range_with_len}
use Rattle.std.specs.Option.{option_or}
use Rattle.std.specs.BTreeMap.{BTreeMap, get}
use Rattle.dns_names.specs.Order.{canonical_cmp, same_name}
use Rattle.zone_core.proofs.SetLemmas.{by_cases, name_is}
use Rattle.zone_core.specs.declared.update.Prerequisite.{Prerequisite}
use Rattle.std.proofs.Math.Seq.{take-suc}
use Rattle.zone_core.specs.declared.update.Operation.{Operation}
use Rattle.zone_core.specs.Updates.{acted_name, tested_name}
use Rattle.cli_updates.specs.Slots.{acted_names, acted_place, first_at, tested_names, tests_soa, in_places, placed_at, tested_place, lent, slots_view}

-- the first place among more names
first_more : (p : List (List ℕ) → Bool) (i : ℕ) (names : List (List (List ℕ))) (name : List (List ℕ))
    → position_from p i (names ++ name ∷ []) ≡ option_or (position_from p i names) (if p name then Some (i + length names) else None)
first_more p i [] name = ap (λ n. cond (p name) (Some n) None) (omega arith)
first_more p i (n ∷ ns) name = go (p n) (first_more p (i + 1) ns name)
  where
    here : ℕ → Option ℕ
    here m = if p name then Some m else None

    go : (b : Bool) → position_from p (i + 1) (ns ++ name ∷ []) ≡ option_or (position_from p (i + 1) ns) (here (i + 1 + length ns))
        → cond b (Some i) (position_from p (i + 1) (ns ++ name ∷ [])) ≡ option_or (cond b (Some i) (position_from p (i + 1) ns)) (here (i + suc (length ns)))
    go true next = refl
    go false next = next ∙ ap (λ m. option_or (position_from p (i + 1) ns) (here m)) (omega arith)

pub first_at_more : (names : List (List (List ℕ))) (name q : List (List ℕ))
    → first_at (names ++ name ∷ []) q ≡ option_or (first_at names q) (if same_name name q then Some (length names) else None)
first_at_more names name q =
    first_more (λ n. same_name n q) 0 names name
    ∙ ap (λ m. option_or (first_at names q) (if same_name name q then Some m else None)) (omega arith)

-- a place that is there stays
option_or_none : {X : Type 0} (o : Option X) → o ≡ option_or o None
option_or_none None = refl
option_or_none (Some x) = refl

option_or_some : {X : Type 0} (o other : Option X) → is_some o ≡ true → o ≡ option_or o other
option_or_some None other e = absurd cc
option_or_some (Some x) other e = refl

option_or_instead : {X : Type 0} (o other : Option X) → is_some o ≡ false → other ≡ option_or o other
option_or_instead None other e = refl
option_or_instead (Some x) other e = absurd cc

pub there : (m : BTreeMap (List (List ℕ)) ℕ) (name q : List (List ℕ)) (place : ℕ) → is_some (get canonical_cmp m name) ≡ true
    → get canonical_cmp m q ≡ option_or (get canonical_cmp m q) (if same_name name q then Some place else None)
there m name q place is =
    by_cases (same_name name q) _
    (λ t. option_or_some (get canonical_cmp m q) (if same_name name q then Some place else None) (subst (λ n. is_some (get canonical_cmp m n) ≡ true) (name_is name q t) is))
    (λ f. rw f (option_or_none (get canonical_cmp m q)))

pub put : (m : BTreeMap (List (List ℕ)) ℕ) (name q : List (List ℕ)) (place : ℕ) → is_some (get canonical_cmp m name) ≡ false
    → cond (same_name name q) (Some place) (get canonical_cmp m q) ≡ option_or (get canonical_cmp m q) (if same_name name q then Some place else None)
put m name q place none =
    by_cases (same_name name q) _
    (λ t. rw t (option_or_instead (get canonical_cmp m q) (Some place) (subst (λ n. is_some (get canonical_cmp m n) ≡ false) (name_is name q t) none)))
    (λ f. rw f (option_or_none (get canonical_cmp m q)))

pub length_taken : {X Y : Type 0} (f : X → Y) (xs : List X) (i : ℕ) → i ≤ length xs → length (map f (take i xs)) ≡ i
length_taken f xs zero le = refl
length_taken f [] (suc i) le = absurd (omega arith)
length_taken f (x ∷ xs) (suc i) le = ap suc (length_taken f xs i (omega arith))

-- the first place among the names of more items
pub place_more : {X : Type 0} (f : X → List (List ℕ)) (xs : List X) (i : ℕ) (x : X) (q : List (List ℕ)) → i < length xs → x ≡ get_or xs i x
    → option_or (first_at (map f (take i xs)) q) (if same_name (f x) q then Some i else None) ≡ first_at (map f (take (i + 1) xs)) q
place_more f xs i x q lt is =
    ap (λ y. option_or (first_at (map f (take i xs)) q) (if same_name (f y) q then Some i else None)) is
    ∙ sym (ap (λ names. first_at names q) (map_more f xs i x lt) ∙ (first_at_more (map f (take i xs)) (f (get_or xs i x)) q
    ∙ ap (λ n. option_or (first_at (map f (take i xs)) q) (if same_name (f (get_or xs i x)) q then Some n else None)) (length_taken f xs i (omega (arith, lt)))))

-- ---- slots

-- a place more without prerequisites
pub empty_more : {X : Type 0} (xs : List (List X)) (k : ℕ) → get_or (xs ++ [] ∷ []) k [] ≡ get_or xs k []
empty_more [] zero = refl
empty_more [] (suc k) = refl
empty_more (x ∷ xs) zero = refl
empty_more (x ∷ xs) (suc k) = empty_more xs k

pub map_at : {X Y : Type 0} (f : X → Y) (xs : List X) (i : ℕ) (d : X) (e : Y) → i < length xs → get_or (map f xs) i e ≡ f (get_or xs i d)
map_at f [] i d e lt = absurd (omega arith)
map_at f (x ∷ xs) zero d e lt = refl
map_at f (x ∷ xs) (suc i) d e lt = map_at f xs i d e (omega arith)

nat_eq-self : (n : ℕ) → (n == n) ≡ true
nat_eq-self n = grind arith

set_at : {X : Type 0} (xs : List X) (i k : ℕ) (y d : X) → i < length xs → get_or (set xs i y) k d ≡ if i == k then y else get_or xs k d
set_at xs i k y d lt =
    by_cases (i == k) _ (λ t. rw t (let is = eqb-true i k t in rw (sym is) (get_or-set_same xs i y d lt)))
    (λ f. rw f (get_or-set_other xs i k y d (λ e. true≢false (sym (rw e (nat_eq-self i)) ∙ f))))

pub length-map : {X Y : Type 0} (f : X → Y) (xs : List X) → length (map f xs) ≡ length xs
length-map f [] = refl
length-map f (x ∷ xs) = ap suc (length-map f xs)

-- a prerequisite more in a place
pub put_at : {A : Type 0} (slots : List (Vec (Bor Prerequisite) A)) (i k : ℕ) (v w : Vec (Bor Prerequisite) A) (t : Bor Prerequisite)
    → i < length slots → w.items ≡ (get_or slots i v).items ++ t ∷ []
    → get_or (slots_view (set slots i w)) k [] ≡ if i == k then get_or (slots_view slots) k [] ++ t.now ∷ [] else get_or (slots_view slots) k []
put_at {A} slots i k v w t lt items =
    let f : Vec (Bor Prerequisite) A → List Prerequisite = λ x. lent x.items in
    let held : lent w.items ≡ get_or (slots_view slots) i [] ++ t.now ∷ [] =
    ap lent items ∙ (map-append (λ (p : Bor Prerequisite). p.now) (get_or slots i v).items (t ∷ []) ∙ ap (λ l. l ++ t.now ∷ []) (sym (map_at f slots i v [] lt))) in
    ap (λ l. get_or l k []) (map-set f slots i w)
    ∙ (set_at (slots_view slots) i k (lent w.items) [] (subst (λ n. i < n) (sym (length-map f slots)) lt)
    ∙ by_cases (i == k) _ (λ e. rw e (held ∙ ap (λ n. get_or (slots_view slots) n [] ++ t.now ∷ []) (eqb-true i k e))) (λ e. rw e refl))

-- ---- the items of places

-- lent prerequisites by their names
pub names_lent : (tests : List (Bor Prerequisite)) → map (λ (p : Bor Prerequisite). tested_name p.now) tests ≡ tested_names (lent tests)
names_lent [] = refl
names_lent (t ∷ tests) = ap (λ ns. tested_name t.now ∷ ns) (names_lent tests)

-- a place is one of the names
place_from : (p : List (List ℕ) → Bool) (n i : ℕ) (names : List (List (List ℕ))) → position_from p n names ≡ Some i → i < n + length names
place_from p n i [] e = absurd cc
place_from p n i (x ∷ names) e =
    by_cases (p x) _ (λ t. let is : Some n ≡ Some i = rw t at e in let same : n ≡ i = cc in omega (arith, same))
    (λ f. let later : position_from p (n + 1) names ≡ Some i = rw f at e in let below = place_from p (n + 1) i names later in omega (arith, below))

pub place_inside : (names : List (List (List ℕ))) (q : List (List ℕ)) (i : ℕ) → first_at names q ≡ Some i → i < length names
place_inside names q i e = let below = place_from (λ n. same_name n q) 0 i names e in omega (arith, below)

pub acted_inside : (operations : List Operation) (t : Prerequisite) (i : ℕ) → acted_place operations t ≡ Some i → i < length operations
acted_inside operations t i e =
    by_cases (tests_soa t) _ (λ y. let none : None ≡ Some i = rw y at e in absurd cc)
    (λ n. let some : first_at (acted_names operations) (tested_name t) ≡ Some i = rw n at e in
    subst (λ m. i < m) (length-map acted_name operations) (place_inside (acted_names operations) (tested_name t) i some))

filter_more : {X : Type 0} (p : X → Bool) (xs : List X) (x : X) → filter p (xs ++ x ∷ []) ≡ filter p xs ++ (if p x then x ∷ [] else [])
filter_more p [] x = by_cases (p x) _ (λ e. rw e refl) (λ e. rw e refl)
filter_more p (y ∷ ys) x = by_cases (p y) _ (λ e. rw e (ap (λ l. y ∷ l) (filter_more p ys x))) (λ e. rw e (filter_more p ys x))

pub take_next : {X : Type 0} (xs : List X) (i : ℕ) (x : X) → i < length xs → x ≡ get_or xs i x → take (i + 1) xs ≡ take i xs ++ x ∷ []
take_next xs i x lt is =
    let one : i + 1 ≡ suc i = omega arith in
    ap (λ n. take n xs) one ∙ (take-suc xs i x lt ∙ ap (λ y. take i xs ++ y ∷ []) (sym is))

-- items that pass, with one item more
pub filter_next : {X : Type 0} (p : X → Bool) (xs : List X) (i : ℕ) (x : X) → i < length xs → x ≡ get_or xs i x
    → filter p (take i xs) ++ (if p x then x ∷ [] else []) ≡ filter p (take (i + 1) xs)
filter_next p xs i x lt is = sym (ap (filter p) (take_next xs i x lt is) ∙ filter_more p (take i xs) x)

-- the first place of a name that is there
pub tested_inside : (tests : List Prerequisite) (t : Prerequisite) (i : ℕ) → tested_place tests t ≡ Some i → i < length tests
tested_inside tests t i e = subst (λ m. i < m) (length-map tested_name tests) (place_inside (tested_names tests) (tested_name t) i e)

pub lent_length : (tests : List (Bor Prerequisite)) → length (lent tests) ≡ length tests
lent_length tests = length-map (λ (p : Bor Prerequisite). p.now) tests

-- the same of lent prerequisites
pub lent_next : (p : Prerequisite → Bool) (tests : List (Bor Prerequisite)) (i : ℕ) (x : Bor Prerequisite) → i < length tests → x ≡ get_or tests i x
    → filter p (lent (take i tests)) ++ (if p x.now then x.now ∷ [] else []) ≡ filter p (lent (take (i + 1) tests))
lent_next p tests i x lt is =
    sym (ap (filter p) (ap lent (take_next tests i x lt is) ∙ map-append (λ (y : Bor Prerequisite). y.now) (take i tests) (x ∷ [])) ∙ filter_more p (lent (take i tests)) x.now)

-- the prerequisites of places, one by one
places_from : (place : Prerequisite → Option ℕ) (tests : List Prerequisite) (slots : List (List Prerequisite)) (a : ℕ)
    → ((k : ℕ) → get_or slots k [] ≡ placed_at place tests (a + k)) → slots ≡ map (placed_at place tests) (range_with_len a (length slots))
places_from place tests [] a each = refl
places_from place tests (slot ∷ slots) a each =
    let zero_more : a + 0 ≡ a = omega arith in
    let one_more : (k : ℕ) → a + suc k ≡ a + 1 + k = λ k. omega arith in
    ap₂ (λ s ss. s ∷ ss) (each 0 ∙ ap (placed_at place tests) zero_more)
    (places_from place tests slots (a + 1) (λ k. each (suc k) ∙ ap (placed_at place tests) (one_more k)))

pub places_are : (place : Prerequisite → Option ℕ) (tests : List Prerequisite) (slots : List (List Prerequisite)) (n : ℕ) → length slots ≡ n
    → ((k : ℕ) → get_or slots k [] ≡ placed_at place tests k) → slots ≡ in_places place tests n
places_are place tests slots n count each =
    let zero_more : (k : ℕ) → 0 + k ≡ k = λ k. omega arith in
    places_from place tests slots 0 (λ k. each k ∙ ap (placed_at place tests) (sym (zero_more k))) ∙ ap (in_places place tests) count

pub slots_length : {A : Type 0} (slots : List (Vec (Bor Prerequisite) A)) → length (slots_view slots) ≡ length slots
slots_length {A} slots = length-map (λ (v : Vec (Bor Prerequisite) A). lent v.items) slots

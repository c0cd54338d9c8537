-- What the parts of an update have of it.
use Rattle.std.proofs.Common.{◌≡◌, ◌≢◌, ◌∙◌, ℕ, zero, suc, ◌+◌, ◌<◌, ◌≤◌, List, [], ◌∷◌, ◌++◌, length, map, Bool, true, false, cond, not, ◌==◌, ◌||◌, ◌&&◌, eqb-true, true≢false, Option, Some, None, is_none, arith, refl, sym, ap, ap₂, subst, append_assoc, append-nil, length-append}
use Rattle.std.specs.Prelude.{is_some}
use Rattle.std.specs.List.{AllByRecursion, filter, flat_map, position_from, range_with_len, zip}
use Rattle.std.specs.List.Sorted.{IsPermutation}
use Rattle.std.proofs.lemmas.List.{map-append}
use Rattle.std.proofs.lemmas.List.FromFn.{length-map-range_with_len}
use Rattle.std.proofs.lemmas.List.Sorted.{IsPermutation-append, IsPermutation-cons, IsPermutation-filter_both, IsPermutation-middle, IsPermutation-refl, IsPermutation-sym, IsPermutation-trans}
use Rattle.dns_names.specs.Order.{same_name}
use Rattle.dns_data.specs.declared.record_type.RecordType.TheVariants as types
use Rattle.dns_data.specs.declared.rdata.Data.{Data}
use Rattle.dns_data.specs.declared.rdata.Data.TheVariants as variants
use Rattle.dns_data.specs.Rdata.{type_of}
use Rattle.zone_core.specs.declared.update.Prerequisite.{Prerequisite}
use Rattle.zone_core.specs.declared.update.Prerequisite.TheVariants.{RrsetExists, RrsetEquals, RrsetAbsent, NameUsed, NameUnused}
use Rattle.zone_core.specs.declared.update.Operation.{Operation}
use Rattle.zone_core.specs.Updates.{UpdateOf, acted_name, tested_name}
use Rattle.zone_core.proofs.SetLemmas.{by_cases, name_self}
use Rattle.update_lines.specs.Reading.{behind, no_items}
use Rattle.cli_updates.specs.Octets.{bare_length, capped, sum_up}
use Rattle.cli_updates.specs.Slots.{acted_names, acted_place, first_at, in_places, is_place, is_soa_data, placed_at, tested_names, tested_place, tests_soa, unplaced}
use Rattle.cli_updates.specs.Filling.{PieceOf, filled, has_room, takes}
use Rattle.cli_updates.specs.Pieces.{guarded_piece, operation_pieces, pieces_of, split_of, tests_piece}
use Rattle.cli_updates.proofs.SlotLemmas.{acted_inside, length-map, tested_inside}
use Rattle.cli_updates.specs.SplitPromises.{SplitsArePartsOf}
use Rattle.zone_tools.specs.UpdatesInTurn.{AreTestedFirst, LeaveTested, TestsSoaData}
use Rattle.cli_updates.proofs.TogetherLemmas.{split_together}

-- ---- lists

flat_map-append : {X Y : Type 0} (f : X → List Y) (xs ys : List X) → flat_map f (xs ++ ys) ≡ flat_map f xs ++ flat_map f ys
flat_map-append f [] ys = refl
flat_map-append f (x ∷ xs) ys = ap (λ l. f x ++ l) (flat_map-append f xs ys) ∙ sym (append_assoc (f x) (flat_map f xs) (flat_map f ys))

pub all_append : {X : Type 0} (P : X → Type 0) (xs ys : List X) → AllByRecursion P xs → AllByRecursion P ys → AllByRecursion P (xs ++ ys)
all_append P [] ys all more = more
all_append P (x ∷ xs) ys all more = (all.0, all_append P xs ys all.1 more)

all_front : {X : Type 0} (P : X → Type 0) (xs ys : List X) → AllByRecursion P (xs ++ ys) → AllByRecursion P xs
all_front P [] ys all = tt
all_front P (x ∷ xs) ys all = (all.0, all_front P xs ys all.1)

all_map : {X : Type 0} (P Q : X → Type 0) (xs : List X) → ((x : X) → P x → Q x) → AllByRecursion P xs → AllByRecursion Q xs
all_map P Q [] f all = tt
all_map P Q (x ∷ xs) f all = (f x all.0, all_map P Q xs f all.1)

all_none : (tests : List Prerequisite) → AllByRecursion (LeaveTested []) tests
all_none [] = tt
all_none (p ∷ tests) = ((tt, λ soa. refl), all_none tests)

-- ---- filling loses nothing

module _ {Y : Type 0} (of : UpdateOf → List Y) (joined : (u v : UpdateOf) → of (behind u v) ≡ of u ++ of v) (frame : ℕ) where
  filled_all : (n : ℕ) (u : UpdateOf) (ps : List PieceOf) → flat_map of (filled frame n u ps) ≡ of u ++ flat_map (λ p. of p.items) ps
  filled_all n u [] = refl
  filled_all n u (p ∷ ps) =
      by_cases (takes n u p) _
      (λ t. rw t (filled_all (sum_up n p.octets) (behind u p.items) ps
      ∙ (ap (λ l. l ++ flat_map (λ q. of q.items) ps) (joined u p.items) ∙ append_assoc (of u) (of p.items) (flat_map (λ q. of q.items) ps))))
      (λ f. rw f (ap (λ l. of u ++ l) (filled_all (sum_up frame p.octets) p.items ps)))

-- ---- the operations

module _ (id : List ℕ) (frame : ℕ) where
  tests_bare : (slots : List (List Prerequisite)) → flat_map (λ p. p.items.operations) (map (tests_piece id) slots) ≡ []
  tests_bare [] = refl
  tests_bare (slot ∷ slots) = tests_bare slots

  piece_operations : (p : List Prerequisite × Operation) → flat_map (λ q. q.items.operations) (operation_pieces id frame p) ≡ p.1 ∷ []
  piece_operations p = by_cases (has_room frame no_items (guarded_piece id p.0 p.1)) _ (λ t. rw t refl) (λ f. rw f refl)

  piece_tests : (p : List Prerequisite × Operation) → flat_map (λ q. q.items.prerequisites) (operation_pieces id frame p) ≡ p.0
  piece_tests p = by_cases (has_room frame no_items (guarded_piece id p.0 p.1)) _ (λ t. rw t (append-nil p.0)) (λ f. rw f (append-nil p.0))

  operations_all : (slots : List (List Prerequisite)) (ops : List Operation) → length slots ≡ length ops
      → flat_map (λ q. q.items.operations) (flat_map (operation_pieces id frame) (zip slots ops)) ≡ ops
  operations_all [] [] same = refl
  operations_all [] (op ∷ ops) same = absurd (omega (arith, same))
  operations_all (s ∷ slots) [] same = absurd (omega (arith, same))
  operations_all (s ∷ slots) (op ∷ ops) same =
      flat_map-append (λ (q : PieceOf). q.items.operations) (operation_pieces id frame (s, op)) (flat_map (operation_pieces id frame) (zip slots ops))
      ∙ ap₂ (λ a b. a ++ b) (piece_operations (s, op)) (operations_all slots ops (omega (arith, same)))

  tests_of_operations : (slots : List (List Prerequisite)) (ops : List Operation) → length slots ≡ length ops
      → flat_map (λ q. q.items.prerequisites) (flat_map (operation_pieces id frame) (zip slots ops)) ≡ flat_map (λ s. s) slots
  tests_of_operations [] [] same = refl
  tests_of_operations [] (op ∷ ops) same = absurd (omega (arith, same))
  tests_of_operations (s ∷ slots) [] same = absurd (omega (arith, same))
  tests_of_operations (s ∷ slots) (op ∷ ops) same =
      flat_map-append (λ (q : PieceOf). q.items.prerequisites) (operation_pieces id frame (s, op)) (flat_map (operation_pieces id frame) (zip slots ops))
      ∙ ap₂ (λ a b. a ++ b) (piece_tests (s, op)) (tests_of_operations slots ops (omega (arith, same)))

  tests_of_tests : (slots : List (List Prerequisite)) → flat_map (λ q. q.items.prerequisites) (map (tests_piece id) slots) ≡ flat_map (λ s. s) slots
  tests_of_tests [] = refl
  tests_of_tests (slot ∷ slots) = ap (λ l. slot ++ l) (tests_of_tests slots)

-- ---- each prerequisite once

-- items that pass either of two tests, which none passes both of
union : {X : Type 0} (p q r : X → Bool) → ((x : X) → (p x || q x) ≡ r x) → ((x : X) → (p x && q x) ≡ false) → (xs : List X)
    → IsPermutation (filter p xs ++ filter q xs) (filter r xs)
union p q r either apart [] = IsPermutation-refl []
union {X} p q r either apart (x ∷ xs) = go (p x) (q x) (r x) (either x) (apart x) (union p q r either apart xs)
  where
    go : (a b c : Bool) → (a || b) ≡ c → (a && b) ≡ false → IsPermutation (filter p xs ++ filter q xs) (filter r xs)
        → IsPermutation (cond a (x ∷ filter p xs) (filter p xs) ++ cond b (x ∷ filter q xs) (filter q xs)) (cond c (x ∷ filter r xs) (filter r xs))
    go true true c e d rest = absurd (true≢false d)
    go true false c e d rest =
        subst (λ k. IsPermutation (x ∷ (filter p xs ++ filter q xs)) (cond k (x ∷ filter r xs) (filter r xs))) e
        (IsPermutation-cons x (filter p xs ++ filter q xs) (filter r xs) rest)
    go false true c e d rest =
        subst (λ k. IsPermutation (filter p xs ++ x ∷ filter q xs) (cond k (x ∷ filter r xs) (filter r xs))) e
        (IsPermutation-trans (filter p xs ++ x ∷ filter q xs) (x ∷ (filter p xs ++ filter q xs)) (x ∷ filter r xs) (IsPermutation-middle (filter p xs) x (filter q xs))
        (IsPermutation-cons x (filter p xs ++ filter q xs) (filter r xs) rest))
    go false false c e d rest = subst (λ k. IsPermutation (filter p xs ++ filter q xs) (cond k (x ∷ filter r xs) (filter r xs))) e rest

filter_same : {X : Type 0} (p q : X → Bool) → ((x : X) → p x ≡ q x) → (xs : List X) → filter p xs ≡ filter q xs
filter_same p q same [] = refl
filter_same p q same (x ∷ xs) = ap₂ (λ b l. cond b (x ∷ l) l) (same x) (filter_same p q same xs)

filter_all : {X : Type 0} (p : X → Bool) (xs : List X) → AllByRecursion (λ x. p x ≡ true) xs → filter p xs ≡ xs
filter_all p [] all = refl
filter_all p (x ∷ xs) all = rw all.0 (ap (λ l. x ∷ l) (filter_all p xs all.1))

filter_none : {X : Type 0} (xs : List X) → filter (λ x. false) xs ≡ []
filter_none [] = refl
filter_none (x ∷ xs) = filter_none xs

-- whether a place is among so many
abbrev among : ℕ → ℕ → Option ℕ → Bool
among a zero o = false
among a (suc n) o = is_place a o || among (a + 1) n o

among_none : (a n : ℕ) → among a n None ≡ false
among_none a zero = refl
among_none a (suc n) = among_none (a + 1) n

above : (n b i : ℕ) → i < b → among b n (Some i) ≡ false
above zero b i lt = refl
above (suc n) b i lt =
    by_cases (i == b) _ (λ t. let same = eqb-true i b t in absurd (omega (arith, same, lt)))
    (λ f. rw f (above n (b + 1) i (omega (arith, lt))))

past : (b i : ℕ) → b ≤ i → (i == b) ≡ false → b + 1 ≤ i
past b i le f = grind (arith, le, f)

inside : (n b i : ℕ) → b ≤ i → i < b + n → among b n (Some i) ≡ true
inside zero b i le lt = absurd (omega (arith, le, lt))
inside (suc n) b i le lt = by_cases (i == b) _ (λ t. rw t refl) (λ f. rw f (inside n (b + 1) i (past b i le f) (omega (arith, lt))))

apart_from : (a n : ℕ) (o : Option ℕ) → (is_place a o && among (a + 1) n o) ≡ false
apart_from a n None = refl
apart_from a n (Some i) =
    by_cases (i == a) _ (λ t. let same = eqb-true i a t in rw t (above n (a + 1) i (omega (arith, same)))) (λ f. rw f refl)

-- the prerequisites of some places are those whose place is among them
gathered : (place : Prerequisite → Option ℕ) (tests : List Prerequisite) (n a : ℕ)
    → IsPermutation (flat_map (λ s. s) (map (placed_at place tests) (range_with_len a n))) (filter (λ p. among a n (place p)) tests)
gathered place tests zero a = subst (IsPermutation []) (sym (filter_none tests)) (IsPermutation-refl [])
gathered place tests (suc n) a =
    let here = placed_at place tests a in
    let later = flat_map (λ s. s) (map (placed_at place tests) (range_with_len (a + 1) n)) in
    let others = filter (λ p. among (a + 1) n (place p)) tests in
    IsPermutation-trans (here ++ later) (here ++ others) (filter (λ p. among a (suc n) (place p)) tests)
    (IsPermutation-append here here later others (IsPermutation-refl here) (gathered place tests n (a + 1)))
    (union (λ p. is_place a (place p)) (λ p. among (a + 1) n (place p)) (λ p. among a (suc n) (place p)) (λ p. refl) (λ p. apart_from a n (place p)) tests)

-- a name that is there has a place
found : (t : List (List ℕ) → Bool) (n : ℕ) (front : List (List (List ℕ))) (x : List (List ℕ)) (back : List (List (List ℕ))) → t x ≡ true
    → is_some (position_from t n (front ++ x ∷ back)) ≡ true
found t n [] x back is = rw is refl
found t n (y ∷ front) x back is = by_cases (t y) _ (λ e. rw e refl) (λ e. rw e (found t (n + 1) front x back is))

all_found : (front rest : List Prerequisite) → AllByRecursion (λ p. is_some (tested_place (front ++ rest) p) ≡ true) rest
all_found front [] = tt
all_found front (p ∷ rest) = (
  subst (λ names. is_some (first_at names (tested_name p)) ≡ true) (sym (map-append tested_name front (p ∷ rest)))
      (found (λ n. same_name n (tested_name p)) 0 (tested_names front) (tested_name p) (tested_names rest) (name_self (tested_name p))),
  subst (λ all. AllByRecursion (λ q. is_some (tested_place all q) ≡ true) rest) (append_assoc front (p ∷ []) rest) (all_found (front ++ p ∷ []) rest),
)

some_inside : (tests : List Prerequisite) (p : Prerequisite) → is_some (tested_place tests p) ≡ true → among 0 (length tests) (tested_place tests p) ≡ true
some_inside tests p is = go (tested_place tests p) refl is
  where
    go : (o : Option ℕ) → tested_place tests p ≡ o → is_some o ≡ true → among 0 (length tests) o ≡ true
    go None e some = absurd cc
    go (Some i) e some = inside (length tests) 0 i (omega arith) (let lt = tested_inside tests p i e in omega (arith, lt))

by_name : (tests : List Prerequisite) → IsPermutation (flat_map (λ s. s) (in_places (tested_place tests) tests (length tests))) tests
by_name tests =
    subst (IsPermutation (flat_map (λ s. s) (in_places (tested_place tests) tests (length tests))))
    (filter_all (λ p. among 0 (length tests) (tested_place tests p)) tests
    (all_map (λ p. is_some (tested_place tests p) ≡ true) (λ p. among 0 (length tests) (tested_place tests p) ≡ true) tests (some_inside tests) (all_found [] tests)))
    (gathered (tested_place tests) tests (length tests) 0)

acted_among : (ops : List Operation) (p : Prerequisite) → among 0 (length ops) (acted_place ops p) ≡ is_some (acted_place ops p)
acted_among ops p = go (acted_place ops p) refl
  where
    go : (o : Option ℕ) → acted_place ops p ≡ o → among 0 (length ops) o ≡ is_some o
    go None e = among_none 0 (length ops)
    go (Some i) e = inside (length ops) 0 i (omega arith) (let lt = acted_inside ops p i e in omega (arith, lt))

by_operation : (tests : List Prerequisite) (ops : List Operation)
    → IsPermutation (flat_map (λ s. s) (in_places (acted_place ops) tests (length ops))) (filter (λ p. is_some (acted_place ops p)) tests)
by_operation tests ops =
    subst (IsPermutation (flat_map (λ s. s) (in_places (acted_place ops) tests (length ops))))
    (filter_same (λ p. among 0 (length ops) (acted_place ops p)) (λ p. is_some (acted_place ops p)) (acted_among ops) tests)
    (gathered (acted_place ops) tests (length ops) 0)

other : (o : Option ℕ) → is_some o ≡ not (is_none o)
other None = refl
other (Some i) = refl

once : (tests : List Prerequisite) (ops : List Operation)
    → IsPermutation tests (flat_map (λ s. s) (in_places (tested_place (unplaced ops tests)) (unplaced ops tests) (length (unplaced ops tests)))
    ++ flat_map (λ s. s) (in_places (acted_place ops) tests (length ops)))
once tests ops =
    let first = unplaced ops tests in
    let placed = filter (λ p. is_some (acted_place ops p)) tests in
    let before = flat_map (λ s. s) (in_places (tested_place first) first (length first)) in
    let beside = flat_map (λ s. s) (in_places (acted_place ops) tests (length ops)) in
    IsPermutation-trans tests (first ++ placed) (before ++ beside)
    (IsPermutation-filter_both (λ p. is_none (acted_place ops p)) (λ p. is_some (acted_place ops p)) (λ p. other (acted_place ops p)) tests)
    (IsPermutation-append first before placed beside (IsPermutation-sym before first (by_name first)) (IsPermutation-sym beside placed (by_operation tests ops)))

-- ---- no operation at their names before

-- the names before the first at which a test passes
before_first : (t : List (List ℕ) → Bool) (n : ℕ) (front back : List (List (List ℕ))) → position_from t n (front ++ back) ≡ Some (n + length front)
    → AllByRecursion (λ x. t x ≡ false) front
before_first t n [] back e = tt
before_first t n (x ∷ front) back e =
    by_cases (t x) _ (λ y. let here : Some n ≡ Some (n + suc (length front)) = rw y at e in let same : n ≡ n + suc (length front) = cc in absurd (omega (arith, same)))
    (λ f. (f, before_first t (n + 1) front back ((rw f at e) ∙ ap Some (omega arith))))

differ : (q : List (List ℕ)) (ops : List Operation) → AllByRecursion (λ n. same_name n q ≡ false) (map acted_name ops) → AllByRecursion (λ op. acted_name op ≢ q) ops
differ q [] all = tt
differ q (op ∷ ops) all = ((λ e. true≢false (sym (name_self q) ∙ subst (λ n. same_name n q ≡ false) e all.0)), differ q ops all.1)

soa_data : (d : Data) → type_of d ≡ types.Soa → is_soa_data d ≡ true
soa_data (variants.Soa soa) e = refl
soa_data d e = absurd cc

soa_tested : (p : Prerequisite) → TestsSoaData p → tests_soa p ≡ true
soa_tested (RrsetExists name t) soa = absurd soa
soa_tested (RrsetEquals name rdata) soa = soa_data rdata soa
soa_tested (RrsetAbsent name t) soa = absurd soa
soa_tested (NameUsed name) soa = absurd soa
soa_tested (NameUnused name) soa = absurd soa

untouched : (done rest : List Operation) (p : Prerequisite) → acted_place (done ++ rest) p ≡ Some (length done) → LeaveTested done p
untouched done rest p e =
    by_cases (tests_soa p) _ (λ y. let none : None ≡ Some (length done) = rw y at e in absurd cc)
    (λ n. let at : first_at (acted_names (done ++ rest)) (tested_name p) ≡ Some (length done) = rw n at e in
    let split : first_at (acted_names done ++ acted_names rest) (tested_name p) ≡ Some (length done) =
    subst (λ names. first_at names (tested_name p) ≡ Some (length done)) (map-append acted_name done rest) at in
    let plain : length (acted_names done) ≡ 0 + length (acted_names done) = omega arith in
    let count : length done ≡ 0 + length (acted_names done) = sym (length-map acted_name done) ∙ plain in (
      differ (tested_name p) done (before_first (λ m. same_name m (tested_name p)) 0 (acted_names done) (acted_names rest) (split ∙ ap Some count)),
      λ soa. absurd (true≢false (sym (soa_tested p soa) ∙ n)),
    ))

-- what operations leave, those at their front do
front_leaves : (done more : List Operation) (p : Prerequisite) → LeaveTested (done ++ more) p → LeaveTested done p
front_leaves done more p left = (all_front (λ op. acted_name op ≢ tested_name p) done more left.0, λ soa. none_before done (left.1 soa))
  where
    none_before : (done : List Operation) → done ++ more ≡ [] → done ≡ []
    none_before [] e = refl
    none_before (op ∷ done) e = absurd cc

pub is_at : (k : ℕ) (o : Option ℕ) → is_place k o ≡ true → o ≡ Some k
is_at k None e = absurd cc
is_at k (Some i) e = ap Some (eqb-true i k e)

all_untouched : (done rest : List Operation) (tests : List Prerequisite) → AllByRecursion (LeaveTested done) (placed_at (acted_place (done ++ rest)) tests (length done))
all_untouched done rest [] = tt
all_untouched done rest (p ∷ tests) =
    by_cases (is_place (length done) (acted_place (done ++ rest) p)) _
    (λ t. rw t (untouched done rest p (is_at (length done) (acted_place (done ++ rest) p) t), all_untouched done rest tests))
    (λ f. rw f (all_untouched done rest tests))

-- pieces without operations
bare_first : (slots : List (List Prerequisite)) (id : List ℕ) (more : List PieceOf) → AreTestedFirst [] (map (λ q. q.items) more)
    → AreTestedFirst [] (map (λ q. q.items) (map (tests_piece id) slots ++ more))
bare_first [] id more first = first
bare_first (slot ∷ slots) id more first = (all_none slot, bare_first slots id more first)

-- one operation more, with its prerequisites beside it or before it
one_more : (id : List ℕ) (frame : ℕ) (done : List Operation) (slot : List Prerequisite) (op : Operation) (more : List PieceOf) → AllByRecursion (LeaveTested done) slot
    → AreTestedFirst (done ++ op ∷ []) (map (λ q. q.items) more) → AreTestedFirst done (map (λ q. q.items) (operation_pieces id frame (slot, op) ++ more))
one_more id frame done slot op more all first =
    by_cases (has_room frame no_items (guarded_piece id slot op)) _ (λ t. rw t (all, first))
    (λ f. rw f (all, (tt, subst (λ l. AreTestedFirst (l ++ op ∷ []) (map (λ (q : PieceOf). q.items) more)) (sym (append-nil done)) first)))

pieces_first : (id : List ℕ) (frame : ℕ) (tests : List Prerequisite) (ops done rest : List Operation) → done ++ rest ≡ ops → (n : ℕ) → length done ≡ n
    → AreTestedFirst done (map (λ q. q.items) (flat_map (operation_pieces id frame) (zip (map (placed_at (acted_place ops) tests) (range_with_len n (length rest))) rest)))
pieces_first id frame tests ops done [] whole n count = tt
pieces_first id frame tests ops done (op ∷ rest) whole n count =
    let slot = placed_at (acted_place ops) tests n in
    let more = flat_map (operation_pieces id frame) (zip (map (placed_at (acted_place ops) tests) (range_with_len (n + 1) (length rest))) rest) in
    let here : AllByRecursion (LeaveTested done) slot =
    subst (λ l. AllByRecursion (LeaveTested done) (placed_at (acted_place l) tests n)) whole
    (subst (λ m. AllByRecursion (LeaveTested done) (placed_at (acted_place (done ++ op ∷ rest)) tests m)) count (all_untouched done (op ∷ rest) tests)) in
    let long : length (done ++ op ∷ []) ≡ n + 1 = length-append done (op ∷ []) ∙ ap (λ m. m + 1) count in
    one_more id frame done slot op more here
    (pieces_first id frame tests ops (done ++ op ∷ []) rest (append_assoc done (op ∷ []) rest ∙ whole) (n + 1) long)

-- filled, they are so still
joined_first : (frame n : ℕ) (done : List Operation) (u : UpdateOf) (ps : List PieceOf) → AllByRecursion (LeaveTested done) u.prerequisites
    → AreTestedFirst (done ++ u.operations) (map (λ q. q.items) ps) → AreTestedFirst done (filled frame n u ps)
joined_first frame n done u [] all first = (all, tt)
joined_first frame n done u (p ∷ ps) all first =
    by_cases (takes n u p) _
    (λ t. rw t (joined_first frame (sum_up n p.octets) done (behind u p.items) ps
    (all_append (LeaveTested done) u.prerequisites p.items.prerequisites all
    (all_map (LeaveTested (done ++ u.operations)) (LeaveTested done) p.items.prerequisites (front_leaves done u.operations) first.0))
    (subst (λ ops. AreTestedFirst ops (map (λ (q : PieceOf). q.items) ps)) (append_assoc done u.operations p.items.operations) first.1)))
    (λ f. rw f (all, joined_first frame (sum_up frame p.octets) (done ++ u.operations) p.items ps first.0 first.1))

-- ---- all of it

split_first : (id : List ℕ) (tests : List Prerequisite) (ops : List Operation) → AreTestedFirst [] (split_of id tests ops)
split_first id tests ops =
    let frame = capped (bare_length id) in
    let first = unplaced ops tests in
    joined_first frame frame [] no_items (pieces_of id frame tests ops) tt
    (bare_first (in_places (tested_place first) first (length first)) id
    (flat_map (operation_pieces id frame) (zip (in_places (acted_place ops) tests (length ops)) ops))
    (pieces_first id frame tests ops [] ops refl 0 refl))

in_places_count : (place : Prerequisite → Option ℕ) (tests : List Prerequisite) (n : ℕ) → length (in_places place tests n) ≡ n
in_places_count place tests n = length-map-range_with_len (placed_at place tests) 0 n

split_operations : (id : List ℕ) (tests : List Prerequisite) (ops : List Operation) → flat_map (λ u. u.operations) (split_of id tests ops) ≡ ops
split_operations id tests ops =
    let frame = capped (bare_length id) in
    let first = unplaced ops tests in
    let before = in_places (tested_place first) first (length first) in
    let beside = in_places (acted_place ops) tests (length ops) in
    filled_all (λ u. u.operations) (λ u v. refl) frame frame no_items (pieces_of id frame tests ops)
    ∙ (flat_map-append (λ (q : PieceOf). q.items.operations) (map (tests_piece id) before) (flat_map (operation_pieces id frame) (zip beside ops))
    ∙ ap₂ (λ a b. a ++ b) (tests_bare id frame before) (operations_all id frame beside ops (in_places_count (acted_place ops) tests (length ops))))

split_tests : (id : List ℕ) (tests : List Prerequisite) (ops : List Operation)
    → flat_map (λ u. u.prerequisites) (split_of id tests ops)
    ≡ flat_map (λ s. s) (in_places (tested_place (unplaced ops tests)) (unplaced ops tests) (length (unplaced ops tests)))
    ++ flat_map (λ s. s) (in_places (acted_place ops) tests (length ops))
split_tests id tests ops =
    let frame = capped (bare_length id) in
    let first = unplaced ops tests in
    let before = in_places (tested_place first) first (length first) in
    let beside = in_places (acted_place ops) tests (length ops) in
    filled_all (λ u. u.prerequisites) (λ u v. refl) frame frame no_items (pieces_of id frame tests ops)
    ∙ (flat_map-append (λ (q : PieceOf). q.items.prerequisites) (map (tests_piece id) before) (flat_map (operation_pieces id frame) (zip beside ops))
    ∙ ap₂ (λ a b. a ++ b) (tests_of_tests id frame before) (tests_of_operations id frame beside ops (in_places_count (acted_place ops) tests (length ops))))

pub splits_are_parts : SplitsArePartsOf
splits_are_parts id tests ops = record {
  in_order = split_operations id tests ops;
  once = subst (IsPermutation tests) (sym (split_tests id tests ops)) (once tests ops);
  first = split_first id tests ops;
  together = split_together id tests ops;
}

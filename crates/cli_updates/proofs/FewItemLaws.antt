-- The parts of an update have no more items than an update may have.
use Rattle.std.proofs.Common.{◌≡◌, ℕ, suc, ◌+◌, ◌≤◌, List, [], ◌∷◌, length, get_or, map, Bool, true, ◌==◌, ◌&&◌, nat_le, eqb-true, Option, Some, None, is_none, arith, subst, length-append}
use Rattle.std.proofs.lemmas.Bool.{and_parts, leb-true}
use Rattle.std.specs.List.{AllByRecursion, filter, flat_map, position_from, range_with_len, zip}
use Rattle.dns_names.specs.Order.{same_name}
use Rattle.zone_core.specs.declared.update.Prerequisite.{Prerequisite}
use Rattle.zone_core.specs.declared.update.Operation.{Operation}
use Rattle.zone_core.specs.Updates.{UpdateOf, tested_name}
use Rattle.zone_core.proofs.SetLemmas.{by_cases}
use Rattle.update_lines.specs.Reading.{behind, no_items}
use Rattle.cli_updates.specs.Octets.{bare_length, capped, sum_up}
use Rattle.cli_updates.specs.Slots.{acted_names, acted_place, first_at, in_places, is_place, placed_at, tested_names, tested_place, tests_soa, unplaced}
use Rattle.cli_updates.specs.Filling.{PieceOf, filled, has_room, is_bare, takes}
use Rattle.cli_updates.specs.Pieces.{guarded_piece, operation_pieces, pieces_of, tests_piece}
use Rattle.cli_updates.proofs.SplitLaws.{all_append, is_at}
use Rattle.cli_updates.specs.SplitPromises.{AreFewAtNames, HasFewItems, SplitsHaveFewItems}

-- ---- at one name

-- no fewer pass a test that all pass that pass another
few_of : {X : Type 0} (p q : X → Bool) → ((x : X) → p x ≡ true → q x ≡ true) → (xs : List X) → length (filter p xs) ≤ length (filter q xs)
few_of p q more [] = omega arith
few_of p q more (x ∷ xs) =
    let rest = few_of p q more xs in
    by_cases (p x) _ (λ t. rw (t, more x t) (omega (arith, rest)))
    (λ f. by_cases (q x) _ (λ t. rw (f, t) (omega (arith, rest))) (λ g. rw (f, g) rest))

few_among : {X : Type 0} (q r : X → Bool) (xs : List X) → length (filter q (filter r xs)) ≤ length (filter q xs)
few_among q r [] = omega arith
few_among q r (x ∷ xs) =
    let rest = few_among q r xs in
    by_cases (r x) _ (λ t. by_cases (q x) _ (λ u. rw (t, u) (omega (arith, rest))) (λ g. rw (t, g) rest))
    (λ f. by_cases (q x) _ (λ u. rw (f, u) (omega (arith, rest))) (λ g. rw (f, g) rest))

named_at : (q : List (List ℕ)) (names : List (List (List ℕ))) (i k : ℕ) → position_from (λ n. same_name n q) i names ≡ Some k
    → (j : ℕ) × (k ≡ i + j) × (same_name (get_or names j []) q ≡ true)
named_at q [] i k e = absurd cc
named_at q (n ∷ ns) i k e =
    by_cases (same_name n q) _
    (λ t. let here : Some i ≡ Some k = rw t at e in let same : i ≡ k = cc in (0, omega (arith, same), t))
    (λ f. let later : position_from (λ m. same_name m q) (i + 1) ns ≡ Some k = rw f at e in
    let found = named_at q ns (i + 1) k later in let is = found.1 in (suc found.0, omega (arith, is), found.2))

named : (names : List (List (List ℕ))) (q : List (List ℕ)) (k : ℕ) → first_at names q ≡ Some k → same_name (get_or names k []) q ≡ true
named names q k e =
    let found = named_at q names 0 k e in
    let is = found.1 in
    let same : found.0 ≡ k = omega (arith, is) in
    subst (λ j. same_name (get_or names j []) q ≡ true) same found.2

placed_few : (place : Prerequisite → Option ℕ) (names : List (List (List ℕ))) → ((p : Prerequisite) (k : ℕ) → place p ≡ Some k → first_at names (tested_name p) ≡ Some k)
    → (tests : List Prerequisite) → AreFewAtNames tests → (k : ℕ) → length (placed_at place tests k) ≤ 64
placed_few place names link tests few k =
    let name = get_or names k [] in
    let less = few_of (λ p. is_place k (place p)) (λ p. same_name name (tested_name p)) (λ p e. named names (tested_name p) k (link p k (is_at k (place p) e))) tests in
    let most = few name in
    omega (arith, less, most)

acted_link : (ops : List Operation) (p : Prerequisite) (k : ℕ) → acted_place ops p ≡ Some k → first_at (acted_names ops) (tested_name p) ≡ Some k
acted_link ops p k e =
    by_cases (tests_soa p) _ (λ t. let none : None ≡ Some k = rw t at e in absurd cc) (λ f. let some : first_at (acted_names ops) (tested_name p) ≡ Some k = rw f at e in some)

slots_few : (place : Prerequisite → Option ℕ) (tests : List Prerequisite) → ((k : ℕ) → length (placed_at place tests k) ≤ 64) → (ks : List ℕ)
    → AllByRecursion (λ s. length s ≤ 64) (map (placed_at place tests) ks)
slots_few place tests few [] = tt
slots_few place tests few (k ∷ ks) = (few k, slots_few place tests few ks)

-- ---- pieces

tests_few : (id : List ℕ) (slots : List (List Prerequisite)) → AllByRecursion (λ s. length s ≤ 64) slots → AllByRecursion (λ q. HasFewItems q.items) (map (tests_piece id) slots)
tests_few id [] few = tt
tests_few id (slot ∷ slots) few = ((few.0, omega arith), tests_few id slots few.1)

operation_few : (id : List ℕ) (frame : ℕ) (slot : List Prerequisite) (op : Operation) → length slot ≤ 64
    → AllByRecursion (λ q. HasFewItems q.items) (operation_pieces id frame (slot, op))
operation_few id frame slot op few =
    by_cases (has_room frame no_items (guarded_piece id slot op)) _ (λ t. rw t ((few, omega arith), tt)) (λ f. rw f ((few, omega arith), ((omega arith, omega arith), tt)))

operations_few : (id : List ℕ) (frame : ℕ) (slots : List (List Prerequisite)) (ops : List Operation) → AllByRecursion (λ s. length s ≤ 64) slots
    → AllByRecursion (λ q. HasFewItems q.items) (flat_map (operation_pieces id frame) (zip slots ops))
operations_few id frame [] ops few = tt
operations_few id frame (slot ∷ slots) [] few = tt
operations_few id frame (slot ∷ slots) (op ∷ ops) few =
    all_append (λ q. HasFewItems q.items) (operation_pieces id frame (slot, op)) (flat_map (operation_pieces id frame) (zip slots ops))
    (operation_few id frame slot op few.0) (operations_few id frame slots ops few.1)

-- ---- parts

joined_few : (n : ℕ) (u : UpdateOf) (p : PieceOf) → takes n u p ≡ true → HasFewItems u → HasFewItems p.items → HasFewItems (behind u p.items)
joined_few n u p e few more =
    let tests = length-append u.prerequisites p.items.prerequisites in
    let ops = length-append u.operations p.items.operations in
    let few_tests = few.0 in
    let few_ops = few.1 in
    let more_tests = more.0 in
    let more_ops = more.1 in
    by_cases (is_bare u) _
    (λ t. let bare = and_parts (length u.prerequisites == 0) (length u.operations == 0) t in
    let no_tests = eqb-true (length u.prerequisites) 0 bare.0 in
    let no_ops = eqb-true (length u.operations) 0 bare.1 in
    (omega (arith, tests, no_tests, more_tests), omega (arith, ops, no_ops, more_ops)))
    (λ f. by_cases (is_bare p.items) _
    (λ t. let bare = and_parts (length p.items.prerequisites == 0) (length p.items.operations == 0) t in
    let no_tests = eqb-true (length p.items.prerequisites) 0 bare.0 in
    let no_ops = eqb-true (length p.items.operations) 0 bare.1 in
    (omega (arith, tests, no_tests, few_tests), omega (arith, ops, no_ops, few_ops)))
    (λ g. let room : has_room n u p ≡ true = rw (f, g) at e in
    let parts = and_parts (nat_le (n + p.octets) 65504)
    (nat_le (length u.prerequisites + length p.items.prerequisites) 64 && nat_le (length u.operations + length p.items.operations) 256) room in
    let counts = and_parts (nat_le (length u.prerequisites + length p.items.prerequisites) 64) (nat_le (length u.operations + length p.items.operations) 256) parts.1 in
    let of_tests = leb-true (length u.prerequisites + length p.items.prerequisites) 64 counts.0 in
    let of_ops = leb-true (length u.operations + length p.items.operations) 256 counts.1 in
    (omega (arith, tests, of_tests), omega (arith, ops, of_ops))))

filled_few : (frame n : ℕ) (u : UpdateOf) (ps : List PieceOf) → HasFewItems u → AllByRecursion (λ q. HasFewItems q.items) ps → AllByRecursion HasFewItems (filled frame n u ps)
filled_few frame n u [] few more = (few, tt)
filled_few frame n u (p ∷ ps) few more =
    by_cases (takes n u p) _ (λ t. rw t (filled_few frame (sum_up n p.octets) (behind u p.items) ps (joined_few n u p t few more.0) more.1))
    (λ f. rw f (few, filled_few frame (sum_up frame p.octets) p.items ps more.0 more.1))

pub splits_have_few_items : SplitsHaveFewItems
splits_have_few_items id tests ops few =
    let frame = capped (bare_length id) in
    let first = unplaced ops tests in
    let first_few : AreFewAtNames first = λ name. let less = few_among (λ p. same_name name (tested_name p)) (λ p. is_none (acted_place ops p)) tests in let most = few name in omega (arith, less, most) in
    let before = slots_few (tested_place first) first (placed_few (tested_place first) (tested_names first) (λ p k e. e) first first_few) (range_with_len 0 (length first)) in
    let beside = slots_few (acted_place ops) tests (placed_few (acted_place ops) (acted_names ops) (acted_link ops) tests few) (range_with_len 0 (length ops)) in
    filled_few frame frame no_items (pieces_of id frame tests ops) (omega arith, omega arith)
    (all_append (λ q. HasFewItems q.items) (map (tests_piece id) (in_places (tested_place first) first (length first)))
    (flat_map (operation_pieces id frame) (zip (in_places (acted_place ops) tests (length ops)) ops))
    (tests_few id (in_places (tested_place first) first (length first)) before)
    (operations_few id frame (in_places (acted_place ops) tests (length ops)) ops beside))

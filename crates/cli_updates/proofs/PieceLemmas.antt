-- The pieces of parts, and their octets.
use Rattle.std.proofs.Common.{◌≡◌, ◌∙◌, ℕ, zero, suc, ◌+◌, ◌<◌, ◌≤◌, Option, List, [], ◌∷◌, ◌++◌, length, get_or, map, take, Bor, Vec, arith, refl, sym, ap, ap₂, subst, append_assoc, append-nil}
use Rattle.std.specs.Prelude.{fold}
use Rattle.std.specs.List.{flat_map, zip}
use Rattle.std.proofs.lemmas.List.{map-append}
use Rattle.std.proofs.lemmas.List.FromFn.{length-map-range_with_len}
use Rattle.zone_core.specs.declared.update.Prerequisite.{Prerequisite}
use Rattle.cli_updates.specs.Octets.{sum_up, test_octets, tests_octets}
use Rattle.cli_updates.specs.Slots.{in_places, placed_at, lent, slots_view}
use Rattle.cli_updates.proofs.SlotLemmas.{map_at, slots_length, take_next}

fold_push : {X Y : Type 0} (f : Y → X → Y) (a : Y) (xs : List X) (x : X) → fold f a (xs ++ x ∷ []) ≡ f (fold f a xs) x
fold_push f a [] x = refl
fold_push f a (y ∷ ys) x = fold_push f (f a y) ys x

-- the octets of one prerequisite more
pub octets_more : (id : List ℕ) (tests : List (Bor Prerequisite)) (i : ℕ) (x : Bor Prerequisite) → i < length tests → x ≡ get_or tests i x
    → sum_up (tests_octets id (lent (take i tests))) (test_octets id x.now) ≡ tests_octets id (lent (take (i + 1) tests))
octets_more id tests i x lt is =
    sym (ap (tests_octets id) (ap lent (take_next tests i x lt is) ∙ map-append (λ (y : Bor Prerequisite). y.now) (take i tests) (x ∷ []))
    ∙ fold_push (λ n p. sum_up n (test_octets id p)) 0 (lent (take i tests)) x.now)

-- an item more after others
pub pushed : {X Y : Type 0} (view : X → Y) (initial done more : List Y) (xs all : List X) (x : X) (y : Y) → all ≡ xs ++ x ∷ [] → map view xs ≡ initial ++ done
    → view x ≡ y → done ++ y ∷ [] ≡ more → map view all ≡ initial ++ more
pushed view initial done more xs all x y is held seen next =
    ap (map view) is
    ∙ (map-append view xs (x ∷ [])
    ∙ (ap₂ (λ front last. front ++ last ∷ []) held seen ∙ (append_assoc initial done (y ∷ []) ∙ ap (λ l. initial ++ l) next)))

-- the pieces of a place more
pub slot_next : {A : Type 0} {Y : Type 0} (f : List Prerequisite → Y) (slots : List (Vec (Bor Prerequisite) A)) (i : ℕ) (x : Vec (Bor Prerequisite) A)
    → i < length slots → x ≡ get_or slots i x → map f (slots_view (take i slots)) ++ f (lent x.items) ∷ [] ≡ map f (slots_view (take (i + 1) slots))
slot_next {A} f slots i x lt is =
    let view : Vec (Bor Prerequisite) A → List Prerequisite = λ v. lent v.items in
    sym (ap (map f) (ap slots_view (take_next slots i x lt is) ∙ map-append view (take i slots) (x ∷ [])) ∙ map-append f (slots_view (take i slots)) (lent x.items ∷ []))

-- a pair of two lists more
zip_next : {X Y Z : Type 0} (f : X × Y → List Z) (xs : List X) (ys : List Y) (i : ℕ) (x : X) (y : Y) → i < length xs → i < length ys → x ≡ get_or xs i x → y ≡ get_or ys i y
    → flat_map f (take i (zip xs ys)) ++ f (x, y) ≡ flat_map f (take (i + 1) (zip xs ys))
zip_next f [] ys i x y lt lt' is is' = absurd (omega arith)
zip_next f (a ∷ xs) [] i x y lt lt' is is' = absurd (omega arith)
zip_next f (a ∷ xs) (b ∷ ys) zero x y lt lt' is is' = ap₂ (λ p q. f (p, q)) is is' ∙ sym (append-nil (f (a, b)))
zip_next f (a ∷ xs) (b ∷ ys) (suc i) x y lt lt' is is' =
    let one : suc i + 1 ≡ suc (i + 1) = omega arith in
    append_assoc (f (a, b)) (flat_map f (take i (zip xs ys))) (f (x, y))
    ∙ (ap (λ l. f (a, b) ++ l) (zip_next f xs ys i x y (omega arith) (omega arith) is is') ∙ ap (λ n. flat_map f (take n ((a, b) ∷ zip xs ys))) (sym one))

pub operation_next : {A Y Z : Type 0} (f : List Prerequisite × Y → List Z) (slots : List (Vec (Bor Prerequisite) A)) (ys : List Y) (i : ℕ) (x : Vec (Bor Prerequisite) A) (y : Y)
    → length slots ≡ length ys → i < length ys → x ≡ get_or slots i x → y ≡ get_or ys i y
    → flat_map f (take i (zip (slots_view slots) ys)) ++ f (lent x.items, y) ≡ flat_map f (take (i + 1) (zip (slots_view slots) ys))
operation_next {A} f slots ys i x y same lt is is' =
    let view : Vec (Bor Prerequisite) A → List Prerequisite = λ v. lent v.items in
    let below : i < length slots = subst (λ n. i < n) (sym same) lt in
    zip_next f (slots_view slots) ys i (lent x.items) y (subst (λ n. i < n) (sym (slots_length slots)) below) lt
    (ap view is ∙ sym (map_at view slots i x (lent x.items) below)) is'

-- more after what is after others
pub behind_more : {Y : Type 0} (initial done front more all new : List Y) → front ≡ initial ++ done → new ≡ front ++ more → done ++ more ≡ all → new ≡ initial ++ all
behind_more initial done front more all new held is next = is ∙ (ap (λ l. l ++ more) held ∙ (append_assoc initial done more ∙ ap (λ l. initial ++ l) next))

pub zip_all : {X Y : Type 0} (xs : List X) (ys : List Y) (i : ℕ) → length ys ≤ i → take i (zip xs ys) ≡ zip xs ys
zip_all [] ys zero le = refl
zip_all [] ys (suc i) le = refl
zip_all (x ∷ xs) [] zero le = refl
zip_all (x ∷ xs) [] (suc i) le = refl
zip_all (x ∷ xs) (y ∷ ys) zero le = absurd (omega arith)
zip_all (x ∷ xs) (y ∷ ys) (suc i) le = ap (λ l. (x, y) ∷ l) (zip_all xs ys i (omega arith))

-- there is a place for each
pub places_count : {A : Type 0} (place : Prerequisite → Option ℕ) (tests : List Prerequisite) (n : ℕ) (slots : List (Vec (Bor Prerequisite) A))
    → slots_view slots ≡ in_places place tests n → length slots ≡ n
places_count place tests n slots is = sym (slots_length slots) ∙ (ap length is ∙ length-map-range_with_len (placed_at place tests) 0 n)

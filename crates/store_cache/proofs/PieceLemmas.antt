-- Rows in record order, in pieces.
use Rattle.std.proofs.Common.{◌≡◌, ◌⊎◌, inl, inr, ℕ, zero, suc, ◌+◌, ◌-◌, ◌<◌, ◌≤◌, List, [], ◌∷◌, ◌++◌, length, take, drop, get_or, Vec, Bool, true, false, cond, not, ◌||◌, Option, Some, None, refl, sym, ap, subst, ◌∙◌, append-nil, reverse, add-one, get_or-take, get_or-drop, length-take, length-drop, slice_set, arith}
use Rattle.std.proofs.Math.Seq.{drop-cons, take-suc}
use Rattle.std.specs.declared.cmp.Ordering.{Ordering}
use Rattle.std.specs.declared.cmp.Ordering.TheVariants.{Less, Equal, Greater}
use Rattle.std.specs.Ordering.{is_lt, is_eq}
use Rattle.std.specs.Option.{option_or}
use Rattle.std.specs.List.{AllByRecursion, filter, list_any, insert as insert_at}
use Rattle.std.specs.FinMap.{find, get}
use Rattle.std.specs.List.Sorted.{IsStrictlySortedBy, IsPartitionPoint, IsPartitionedBy}
use Rattle.std.proofs.lemmas.List.{append_assoc, take-append-drop, take_all, drop_all, take-set, drop-set-lt, reverse-append}
use Rattle.std.proofs.lemmas.List.Elements.{filter-append}
use Rattle.std.proofs.lemmas.Grind.{flat_map-append}
use Rattle.dns_names.specs.Order.{canonical_cmp}
use Rattle.dns_data.specs.declared.record.Record.{Record}
use Rattle.dns_data.specs.RecordOrder.{record_order_total}
use Rattle.zone_core.specs.Sets.{Records, Key, key_of, key_cmp, same_key, keyed, record_order, set_of, cut as cut_of, put, InOrder, AreRows}
use Rattle.zone_core.specs.Changes.{changed}
use Rattle.zone_core.proofs.RangeLemmas.{by_owner, lt_down}
use Rattle.zone_core.proofs.SetLemmas.{same_sets, get-cut, get-put, key_is}
use Rattle.zone_core.proofs.ChangedLemmas.{get-changed}
use Rattle.zone_core.proofs.PutLemmas.{parted, tie_turned}
use Rattle.zone_core.proofs.RowLemmas.{InOrder-filter}
use Rattle.store_cache.proofs.RecordRowLemmas.{cut_row, put_at_place}
use Rattle.store_cache.specs.RowPieces.{flat, ArePieces, IsPlace, IsPlaceAmong, last_passes, is_other, placed, put_back, removed}

-- ---- lists

pub all_parts : {X : Type 0} (P : X → Type 0) (xs ys : List X) → AllByRecursion P (xs ++ ys) → AllByRecursion P xs × AllByRecursion P ys
all_parts P [] ys all = (tt, all)
all_parts P (x ∷ xs) ys all = let rest = all_parts P xs ys all.1 in ((all.0, rest.0), rest.1)

pub all_joined : {X : Type 0} (P : X → Type 0) (xs ys : List X) → AllByRecursion P xs → AllByRecursion P ys → AllByRecursion P (xs ++ ys)
all_joined P [] ys front back = back
all_joined P (x ∷ xs) ys front back = (front.0, all_joined P xs ys front.1 back)

-- a list with one element between what is before it and what is after
pub cut : {X : Type 0} (xs : List X) (i : ℕ) (x : X) → i < length xs → x ≡ get_or xs i x → xs ≡ take i xs ++ x ∷ drop (suc i) xs
cut xs i x inside is = sym (take-append-drop i xs) ∙ ap (λ ys. take i xs ++ ys) (drop-cons xs i x inside ∙ ap (λ y. y ∷ drop (suc i) xs) (sym is))

-- ---- the order

-- records above one
abbrev pub Above : List Record → Record → Type 0
Above ys x = AllByRecursion (λ y. record_order x y ≡ Less) ys

-- records before one
abbrev pub Before : Record → List Record → Type 0
Before r xs = AllByRecursion (λ x. is_lt (record_order x r) ≡ true) xs

lt_is : (o : Ordering) → is_lt o ≡ true → o ≡ Less
lt_is Less e = refl
lt_is Equal e = absurd cc
lt_is Greater e = absurd cc

pub lt_then : (x y r : Record) → record_order x y ≡ Less → is_lt (record_order y r) ≡ true → is_lt (record_order x r) ≡ true
lt_then x y r less lt = rw (record_order_total.trans x y r less (lt_is (record_order y r) lt)) refl

pub order_parts : (xs ys : List Record) → InOrder (xs ++ ys) → InOrder xs × InOrder ys × AllByRecursion (Above ys) xs
unfolding IsStrictlySortedBy
order_parts [] ys order = (tt, order, tt)
order_parts (x ∷ xs) ys order =
    let rest = order_parts xs ys order.1 in
    let above = all_parts (λ y. record_order x y ≡ Less) xs ys order.0 in
    ((above.0, rest.0), rest.1, (above.1, rest.2))

-- where the last of some rows stands before a record, all do
pub all_before : (r : Record) (xs : List Record) → InOrder xs → last_passes (λ x. is_lt (record_order x r)) xs ≡ true → Before r xs
unfolding IsStrictlySortedBy
all_before r [] order last = tt
all_before r (x ∷ []) order last = (last, tt)
all_before r (x ∷ y ∷ ys) order last = let rest = all_before r (y ∷ ys) order.1 last in (lt_then x y r order.0.0 rest.0, rest)

pub last_is : (p : Record → Bool) (xs : List Record) (x : Record) → 1 ≤ length xs → x ≡ get_or xs (length xs - 1) x → p x ≡ last_passes p xs
last_is p [] x some is = absurd (omega arith)
last_is p (y ∷ []) x some is = ap p is
last_is p (y ∷ z ∷ zs) x some is =
    let next : length (y ∷ z ∷ zs) - 1 ≡ suc (length (z ∷ zs) - 1) = omega arith in
    last_is p (z ∷ zs) x (omega arith) (is ∙ ap (λ n. get_or (y ∷ z ∷ zs) n x) next)

-- the last of some rows, which does not pass a test
pub last_fails : (p : Record → Bool) (P : Record → Type 0) (xs : List Record) → AllByRecursion P xs → last_passes p xs ≡ false → (x : Record) × P x × (p x ≡ false)
last_fails p P [] all last = absurd (let no : true ≡ false = last in cc)
last_fails p P (x ∷ []) all last = (x, all.0, last)
last_fails p P (x ∷ y ∷ ys) all last = last_fails p P (y ∷ ys) all.1 last

-- ---- a record among rows that are cut

-- a record is not the same as one that stands before it
apart : (o : Ordering) → is_lt o ≡ true → is_eq o ≡ false
apart Less e = refl
apart Equal e = absurd cc
apart Greater e = absurd cc

pub none_before : (r : Record) (xs : List Record) → Before r xs → filter (is_other r) xs ≡ xs
none_before r [] all = refl
none_before r (x ∷ xs) all =
    ap (λ b. cond (not b) (x ∷ filter (is_other r) xs) (filter (is_other r) xs)) (tie_turned r x ∙ apart (record_order x r) all.0)
    ∙ ap (λ l. x ∷ l) (none_before r xs all.1)

-- nor as one after a record that does not stand before it
pub none_behind : (r x : Record) (rs : List Record) → Above rs x → is_lt (record_order x r) ≡ false → filter (is_other r) rs ≡ rs
none_behind r x [] all low = refl
none_behind r x (s ∷ rs) all low = by_test (same_key (key_of r) (key_of s)) refl (none_behind r x rs all.1 low)
  where
    by_test : (b : Bool) → same_key (key_of r) (key_of s) ≡ b → filter (is_other r) rs ≡ rs → cond (not b) (s ∷ filter (is_other r) rs) (filter (is_other r) rs) ≡ s ∷ rs
    by_test true t e = absurd (let f : true ≡ false = ap is_lt (sym all.0 ∙ ap (key_cmp (key_of x)) (sym (key_is (key_of r) (key_of s) t))) ∙ low in cc)
    by_test false t e = ap (λ l. s ∷ l) e

-- rows before a record stay before it
pub placed_front : (r : Record) (xs ys : List Record) → Before r xs → placed r (xs ++ ys) ≡ xs ++ placed r ys
placed_front r [] ys all = refl
placed_front r (x ∷ xs) ys all = ap (λ b. cond b (x ∷ placed r (xs ++ ys)) (r ∷ filter (is_other r) (x ∷ xs ++ ys))) all.0 ∙ ap (λ l. x ∷ l) (placed_front r xs ys all.1)

-- and others after it
pub placed_back : (r : Record) (xs ys : List Record) → last_passes (λ x. is_lt (record_order x r)) xs ≡ false → filter (is_other r) ys ≡ ys → placed r (xs ++ ys) ≡ placed r xs ++ ys
placed_back r [] ys last same = absurd (let no : true ≡ false = last in cc)
placed_back r (x ∷ []) ys last same =
    ap (λ b. cond b (x ∷ placed r ys) (r ∷ filter (is_other r) (x ∷ ys))) last
    ∙ ap (λ l. r ∷ l) (filter-append (is_other r) (x ∷ []) ys ∙ ap (λ l. filter (is_other r) (x ∷ []) ++ l) same)
    ∙ sym (ap (λ b. cond b (x ∷ placed r []) (r ∷ filter (is_other r) (x ∷ [])) ++ ys) last)
placed_back r (x ∷ z ∷ zs) ys last same = by_test (is_lt (record_order x r)) (placed_back r (z ∷ zs) ys last same)
  where
    by_test : (b : Bool) → placed r (z ∷ zs ++ ys) ≡ placed r (z ∷ zs) ++ ys
        → cond b (x ∷ placed r (z ∷ zs ++ ys)) (r ∷ filter (is_other r) (x ∷ z ∷ zs ++ ys)) ≡ cond b (x ∷ placed r (z ∷ zs)) (r ∷ filter (is_other r) (x ∷ z ∷ zs)) ++ ys
    by_test true rest = ap (λ k. x ∷ k) rest
    by_test false rest = ap (λ l. r ∷ l) (filter-append (is_other r) (x ∷ z ∷ zs) ys ∙ ap (λ l. filter (is_other r) (x ∷ z ∷ zs) ++ l) same)

-- ---- pieces

pub flat_append : {A : Type 0} (xs ys : List (Vec Record A)) → flat (xs ++ ys) ≡ flat xs ++ flat ys
flat_append xs ys = flat_map-append (λ v. v.items) xs ys

-- the pieces before a place, the piece there, and the others
pub record AreCut {A : Type 0} (pieces : List (Vec Record A)) (place : ℕ) (piece : Vec Record A) : Type 0 where
  pub rows : flat pieces ≡ flat (take place pieces) ++ (piece.items ++ flat (drop (suc place) pieces))
  pub front : InOrder (flat (take place pieces))
  pub order : InOrder piece.items
  pub above : AllByRecursion (Above (flat (drop (suc place) pieces))) piece.items
  pub full_front : AllByRecursion (λ v. 0 < length v.items) (take place pieces)
  pub full : 0 < length piece.items
  pub full_back : AllByRecursion (λ v. 0 < length v.items) (drop (suc place) pieces)

pub are_cut : {A : Type 0} (pieces : List (Vec Record A)) (place : ℕ) (piece : Vec Record A) → ArePieces pieces → place < length pieces → piece ≡ get_or pieces place piece → AreCut pieces place piece
are_cut pieces place piece are inside is =
    let split = cut pieces place piece inside is in
    let rows = ap flat split ∙ flat_append (take place pieces) (piece ∷ drop (suc place) pieces) in
    let front = order_parts (flat (take place pieces)) (piece.items ++ flat (drop (suc place) pieces)) (subst InOrder rows are.order) in
    let back = order_parts piece.items (flat (drop (suc place) pieces)) front.1 in
    let some = all_parts (λ v. 0 < length v.items) (take place pieces) (piece ∷ drop (suc place) pieces) (subst (AllByRecursion (λ v. 0 < length v.items)) split are.some) in
    record { rows = rows; front = front.0; order = back.0; above = back.2; full_front = some.0; full = some.1.0; full_back = some.1.1 }

-- where pieces all end before a record, so do their rows
pub before_flat : {A : Type 0} (r : Record) (pieces : List (Vec Record A)) → InOrder (flat pieces) → AllByRecursion (λ v. last_passes (λ x. is_lt (record_order x r)) v.items ≡ true) pieces → Before r (flat pieces)
before_flat r [] order all = tt
before_flat r (v ∷ vs) order all =
    let parts = order_parts v.items (flat vs) order in
    all_joined (λ x. is_lt (record_order x r) ≡ true) v.items (flat vs) (all_before r v.items parts.0 all.0) (before_flat r vs parts.1 all.1)

-- the rows after a piece that does not end before a record are others than it
pub others_behind : (r : Record) (xs ys : List Record) → AllByRecursion (Above ys) xs → last_passes (λ x. is_lt (record_order x r)) xs ≡ false → filter (is_other r) ys ≡ ys
others_behind r xs ys above last =
    let x = last_fails (λ x. is_lt (record_order x r)) (Above ys) xs above last in
    none_behind r x.0 ys x.1 x.2

-- ---- where pieces are parted

-- of rows of which the last passes a test there is one that does
last_holds : (q : Record → Bool) (P : Record → Type 0) (xs : List Record) → 0 < length xs → AllByRecursion P xs → last_passes q xs ≡ true → (x : Record) × P x × (q x ≡ true)
last_holds q P [] some all last = absurd (omega arith)
last_holds q P (x ∷ []) some all last = (x, all.0, last)
last_holds q P (x ∷ y ∷ ys) some all last = last_holds q P (y ∷ ys) (omega arith) all.1 last

-- and so among the rows of pieces
piece_holds : {A : Type 0} (q : Record → Bool) (P : Record → Type 0) (vs : List (Vec Record A)) (b : ℕ) (d : Vec Record A) → b < length vs → AllByRecursion (λ v. 0 < length v.items) vs
    → AllByRecursion P (flat vs) → last_passes q (get_or vs b d).items ≡ true → (x : Record) × P x × (q x ≡ true)
piece_holds q P [] b d inside some all last = absurd (omega arith)
piece_holds q P (v ∷ vs) zero d inside some all last = last_holds q P v.items some.0 (all_parts P v.items (flat vs) all).0 last
piece_holds q P (v ∷ vs) (suc b) d inside some all last = piece_holds q P vs b d (omega arith) some.1 (all_parts P v.items (flat vs) all).1 last

-- a test that what stands before a record passes where that does
abbrev pub GoesDown : (Record → Bool) → Type 0
GoesDown q = (x y : Record) → record_order x y ≡ Less → q y ≡ true → q x ≡ true

pub parted_pieces : {A : Type 0} (q : Record → Bool) (pieces : List (Vec Record A)) → GoesDown q → InOrder (flat pieces) → AllByRecursion (λ v. 0 < length v.items) pieces
    → (a b : ℕ) (d : Vec Record A) → a ≤ b → b < length pieces → last_passes q (get_or pieces b d).items ≡ true → last_passes q (get_or pieces a d).items ≡ true
parted_pieces q [] down order some a b d up inside last = absurd (omega arith)
parted_pieces q (v ∷ vs) down order some zero zero d up inside last = last
parted_pieces q (v ∷ vs) down order some zero (suc b) d up inside last = by_test (last_passes q v.items) refl
  where
    by_test : (t : Bool) → last_passes q v.items ≡ t → last_passes q v.items ≡ true
    by_test true e = e
    by_test false e =
        let x = last_fails q (Above (flat vs)) v.items (order_parts v.items (flat vs) order).2 e in
        let y = piece_holds q (λ y. record_order x.0 y ≡ Less) vs b d (omega arith) some.1 x.1 last in
        absurd (let no : true ≡ false = sym (down x.0 y.0 y.1 y.2) ∙ x.2 in cc)
parted_pieces q (v ∷ vs) down order some (suc a) zero d up inside last = absurd (omega arith)
parted_pieces q (v ∷ vs) down order some (suc a) (suc b) d up inside last = parted_pieces q vs down (order_parts v.items (flat vs) order).1 some.1 a b d (omega arith) (omega arith) last

all_at : {X : Type 0} (P : X → Type 0) (xs : List X) → ((k : ℕ) (d : X) → k < length xs → P (get_or xs k d)) → AllByRecursion P xs
all_at P [] at = tt
all_at P (x ∷ xs) at = (at 0 x (omega arith), all_at P xs (λ k d inside. at (suc k) d (omega arith)))

pub place_is : {A : Type 0} (p : Vec Record A → Bool) (pieces : List (Vec Record A)) (place : ℕ) → place ≤ length pieces
    → ((k : ℕ) (d : Vec Record A) → k < place → p (get_or pieces k d) ≡ true)
    → ((k : ℕ) (d : Vec Record A) → place ≤ k → k < length pieces → p (get_or pieces k d) ≡ false)
    → IsPlace p pieces place
place_is p pieces place within before behind =
    record {
      within = within;
      before = all_at (λ v. p v ≡ true) (take place pieces) (λ k d inside.
          let short : k < place = omega (arith, length-take place pieces) in
          subst (λ v. p v ≡ true) (sym (get_or-take place pieces k d short)) (before k d short));
      behind = all_at (λ v. p v ≡ false) (drop place pieces) (λ k d inside.
          let long : place + k < length pieces = omega (arith, length-drop place pieces) in
          subst (λ v. p v ≡ false) (sym (get_or-drop place pieces k d)) (behind (place + k) d (omega arith) long));
    }

-- ---- a record that goes

-- where all pieces end before a record, none of their rows is the same
pub none_goes : {A : Type 0} (r : Record) (pieces : List (Vec Record A)) (place : ℕ) → ArePieces pieces → IsPlace (λ v. last_passes (λ x. is_lt (record_order x r)) v.items) pieces place → length pieces ≤ place
    → flat pieces ≡ filter (is_other r) (flat pieces)
none_goes r pieces place are is all =
    sym (none_before r (flat pieces) (before_flat r pieces are.order (subst (AllByRecursion (λ v. last_passes (λ x. is_lt (record_order x r)) v.items ≡ true)) (take_all place pieces all) is.before)))

module _ {A : Type 0} (r : Record) (pieces : List (Vec Record A)) (place : ℕ) (piece : Vec Record A) (are : ArePieces pieces) (is : IsPlace (λ v. last_passes (λ x. is_lt (record_order x r)) v.items) pieces place)
    (inside : place < length pieces) (there : piece ≡ get_or pieces place piece) where
  abbrev before_it : Record → Bool
  before_it x = is_lt (record_order x r)

  split : AreCut pieces place piece
  split = are_cut pieces place piece are inside there

  -- the piece does not end before the record
  stops : last_passes before_it piece.items ≡ false
  stops =
      let rest : AllByRecursion (λ v. last_passes before_it v.items ≡ false) (piece ∷ drop (suc place) pieces) =
      subst (AllByRecursion (λ v. last_passes before_it v.items ≡ false)) (drop-cons pieces place piece inside ∙ ap (λ v. v ∷ drop (suc place) pieces) (sym there)) is.behind in
      rest.0

  pub front_before : Before r (flat (take place pieces))
  front_before = before_flat r (take place pieces) split.front is.before

  pub others_stay : filter (is_other r) (flat (drop (suc place) pieces)) ≡ flat (drop (suc place) pieces)
  others_stay = others_behind r piece.items (flat (drop (suc place) pieces)) split.above stops

  -- the rows without those that are the same
  pub goes : filter (is_other r) (flat pieces) ≡ flat (take place pieces) ++ (filter (is_other r) piece.items ++ flat (drop (suc place) pieces))
  goes =
      ap (filter (is_other r)) split.rows
      ∙ filter-append (is_other r) (flat (take place pieces)) (piece.items ++ flat (drop (suc place) pieces))
      ∙ (λ i. none_before r (flat (take place pieces)) front_before i ++ filter-append (is_other r) piece.items (flat (drop (suc place) pieces)) i)
      ∙ ap (λ l. flat (take place pieces) ++ (filter (is_other r) piece.items ++ l)) others_stay

  -- the rows with the record at its place
  pub comes : placed r (flat pieces) ≡ flat (take place pieces) ++ (placed r piece.items ++ flat (drop (suc place) pieces))
  comes =
      ap (placed r) split.rows
      ∙ placed_front r (flat (take place pieces)) (piece.items ++ flat (drop (suc place) pieces)) front_before
      ∙ ap (λ l. flat (take place pieces) ++ l) (placed_back r piece.items (flat (drop (suc place) pieces)) stops others_stay)

-- pieces with another in the place of one
pub replaced_flat : {A : Type 0} (pieces : List (Vec Record A)) (place : ℕ) (piece : Vec Record A) → place < length pieces
    → flat (slice_set pieces place piece) ≡ flat (take place pieces) ++ (piece.items ++ flat (drop (suc place) pieces))
replaced_flat [] place piece inside = absurd (omega arith)
replaced_flat (v ∷ vs) zero piece inside = refl
replaced_flat (v ∷ vs) (suc place) piece inside =
    ap (λ l. v.items ++ l) (replaced_flat vs place piece (omega arith)) ∙ sym (append_assoc v.items (flat (take place vs)) (piece.items ++ flat (drop (suc place) vs)))

pub set_cut : {X : Type 0} (xs : List X) (i : ℕ) (x : X) → i < length xs → slice_set xs i x ≡ take i xs ++ x ∷ drop (suc i) xs
set_cut [] i x inside = absurd (omega arith)
set_cut (y ∷ ys) zero x inside = refl
set_cut (y ∷ ys) (suc i) x inside = ap (λ l. y ∷ l) (set_cut ys i x (omega arith))

-- the pieces with another in the place of one, which has rows
pub some_set : {A : Type 0} (pieces : List (Vec Record A)) (place : ℕ) (old piece : Vec Record A) → AreCut pieces place old → place < length pieces → 0 < length piece.items → AllByRecursion (λ v. 0 < length v.items) (slice_set pieces place piece)
some_set pieces place old piece split inside some =
    subst (AllByRecursion (λ v. 0 < length v.items)) (sym (set_cut pieces place piece inside))
    (all_joined (λ v. 0 < length v.items) (take place pieces) (piece ∷ drop (suc place) pieces) split.full_front (some, split.full_back))

-- and without it
pub cut_out : {A : Type 0} (pieces after : List (Vec Record A)) (place : ℕ) (piece : Vec Record A) → after ≡ take place (slice_set pieces place piece) ++ drop (place + 1) (slice_set pieces place piece)
    → after ≡ take place pieces ++ drop (suc place) pieces
cut_out pieces after place piece is =
    is ∙ (λ i. take-set pieces place piece i ++ drop (next i) (slice_set pieces place piece)) ∙ ap (λ l. take place pieces ++ l) (drop-set-lt (suc place) pieces place piece (omega arith))
  where
    next : place + 1 ≡ suc place
    next = omega arith

pub none_is : {X : Type 0} (xs : List X) → length xs ≡ 0 → xs ≡ []
none_is [] e = refl
none_is (x ∷ xs) e = absurd (omega (arith, e))

-- ---- a record at its place

-- rows after one that does not stand before a record do not, either
not_before : (r x : Record) (xs : List Record) → Above xs x → is_lt (record_order x r) ≡ false → AllByRecursion (λ y. is_lt (record_order y r) ≡ false) xs
not_before r x [] above low = tt
not_before r x (y ∷ ys) above low = (by_test (is_lt (record_order y r)) refl, not_before r x ys above.1 low)
  where
    by_test : (b : Bool) → is_lt (record_order y r) ≡ b → is_lt (record_order y r) ≡ false
    by_test true e = absurd (let no : true ≡ false = sym (lt_then x y r above.0 e) ∙ low in cc)
    by_test false e = e

all_filtered : (P : Record → Type 0) (p : Record → Bool) (xs : List Record) → AllByRecursion P xs → AllByRecursion P (filter p xs)
all_filtered P p [] all = tt
all_filtered P p (x ∷ xs) all = by_test (p x) (all_filtered P p xs all.1)
  where
    by_test : (b : Bool) → AllByRecursion P (filter p xs) → AllByRecursion P (cond b (x ∷ filter p xs) (filter p xs))
    by_test true rest = (all.0, rest)
    by_test false rest = rest

first_place : (r : Record) (ys : List Record) (i : ℕ) → i ≤ length ys → AllByRecursion (λ y. is_lt (record_order y r) ≡ false) ys
    → ((k : ℕ) (d : Record) → k < i → is_lt (record_order (get_or ys k d) r) ≡ true) → r ∷ ys ≡ insert_at ys i r
first_place r ys zero most low below = first_insert ys
  where
    first_insert : (zs : List Record) → r ∷ zs ≡ insert_at zs 0 r
    first_insert [] = refl
    first_insert (z ∷ zs) = refl
first_place r [] (suc i) most low below = absurd (omega arith)
first_place r (y ∷ ys) (suc i) most low below = absurd (let no : true ≡ false = sym (below 0 y (omega arith)) ∙ low.0 in cc)

-- it is put where the others are parted by it
pub at_place : (r : Record) (rs : List Record) (i : ℕ) → InOrder rs → i ≤ length (filter (is_other r) rs)
    → ((k : ℕ) (d : Record) → k < i → is_lt (record_order (get_or (filter (is_other r) rs) k d) r) ≡ true)
    → ((k : ℕ) (d : Record) → i ≤ k → k < length (filter (is_other r) rs) → is_lt (record_order (get_or (filter (is_other r) rs) k d) r) ≡ false)
    → placed r rs ≡ insert_at (filter (is_other r) rs) i r
unfolding IsStrictlySortedBy
at_place r [] zero order most below above = refl
at_place r [] (suc i) order most below above = absurd (omega arith)
at_place r (x ∷ xs) i order most below above = by_test (is_lt (record_order x r)) refl (λ j m b a. at_place r xs j order.1 m b a)
  where
    others : List Record
    others = filter (is_other r) (x ∷ xs)

    Rest : List Record → Type 0
    Rest ys =
        (j : ℕ) → j ≤ length ys → ((k : ℕ) (d : Record) → k < j → is_lt (record_order (get_or ys k d) r) ≡ true)
        → ((k : ℕ) (d : Record) → j ≤ k → k < length ys → is_lt (record_order (get_or ys k d) r) ≡ false) → placed r xs ≡ insert_at ys j r

    later : (ys : List Record) (j : ℕ) → is_lt (record_order x r) ≡ true → j ≤ length (x ∷ ys) → ((k : ℕ) (d : Record) → k < j → is_lt (record_order (get_or (x ∷ ys) k d) r) ≡ true)
        → ((k : ℕ) (d : Record) → j ≤ k → k < length (x ∷ ys) → is_lt (record_order (get_or (x ∷ ys) k d) r) ≡ false) → Rest ys → x ∷ placed r xs ≡ insert_at (x ∷ ys) j r
    later ys zero e most below above rest = absurd (let no : true ≡ false = sym e ∙ above 0 x (omega arith) (omega arith) in cc)
    later ys (suc j) e most below above rest = ap (λ l. x ∷ l) (rest j (omega arith) (λ k d h. below (suc k) d (omega arith)) (λ k d h l. above (suc k) d (omega arith) (omega arith)))

    by_test : (b : Bool) → is_lt (record_order x r) ≡ b → Rest (filter (is_other r) xs) → cond b (x ∷ placed r xs) (r ∷ others) ≡ insert_at others i r
    by_test true e rest =
        let stays : others ≡ x ∷ filter (is_other r) xs = ap (λ b. cond (not b) (x ∷ filter (is_other r) xs) (filter (is_other r) xs)) (tie_turned r x ∙ apart (record_order x r) e) in
        later (filter (is_other r) xs) i e (subst (λ ys. i ≤ length ys) stays most)
        (subst (λ ys. (k : ℕ) (d : Record) → k < i → is_lt (record_order (get_or ys k d) r) ≡ true) stays below)
        (subst (λ ys. (k : ℕ) (d : Record) → i ≤ k → k < length ys → is_lt (record_order (get_or ys k d) r) ≡ false) stays above) rest
        ∙ ap (λ ys. insert_at ys i r) (sym stays)
    by_test false e rest = first_place r others i most (all_filtered (λ y. is_lt (record_order y r) ≡ false) (is_other r) (x ∷ xs) (e, not_before r x xs order.0 e)) below

-- where a list is parted by a test
part_place : (p : Record → Bool) (ys : List Record) → IsPartitionedBy p ys → (i : ℕ) × (i ≤ length ys) × IsPartitionPoint (λ y. p y ≡ true) (λ y. p y ≡ false) ys i
part_place p [] parted = (0, omega arith, ((λ k d low up. absurd (omega arith)), λ k d low up. absurd (omega arith)))
part_place p (y ∷ ys) parted = by_test (p y) refl (part_place p ys (λ a b d up below h. parted (suc a) (suc b) d (omega arith) (omega arith) h))
  where
    Parted : List Record → Type 0
    Parted zs = (i : ℕ) × (i ≤ length zs) × IsPartitionPoint (λ z. p z ≡ true) (λ z. p z ≡ false) zs i

    no_more : (b : Bool) (k : ℕ) (d : Record) → p y ≡ false → k < length (y ∷ ys) → p (get_or (y ∷ ys) k d) ≡ b → p (get_or (y ∷ ys) k d) ≡ false
    no_more true k d e inside h = absurd (let no : true ≡ false = sym (parted 0 k d (omega arith) inside h) ∙ e in cc)
    no_more false k d e inside h = h

    at_first : (b : Bool) (k : ℕ) (d : Record) → p y ≡ true → ((j : ℕ) → k ≡ suc j → p (get_or ys j d) ≡ b) → b ≡ true → p (get_or (y ∷ ys) k d) ≡ true
    at_first b zero d e rest is = e
    at_first b (suc j) d e rest is = rest j refl ∙ is

    behind_first : (k : ℕ) (d : Record) → ((j : ℕ) → k ≡ suc j → p (get_or ys j d) ≡ false) → 0 < k → p (get_or (y ∷ ys) k d) ≡ false
    behind_first zero d rest some = absurd (omega arith)
    behind_first (suc j) d rest some = rest j refl

    by_test : (b : Bool) → p y ≡ b → Parted ys → Parted (y ∷ ys)
    by_test true e rest = (
      suc rest.0,
      omega (arith, rest.1),
      (
        (λ k d low up. at_first true k d e (λ j is. rest.2.0 j d (omega arith) (omega (arith, is))) refl),
        λ k d low up. behind_first k d (λ j is. rest.2.1 j d (omega (arith, is)) (omega (arith, is))) (omega arith),
      ),
    )
    by_test false e rest = (0, omega arith, ((λ k d low up. absurd (omega arith)), λ k d low up. no_more (p (get_or (y ∷ ys) k d)) k d e up refl))

-- the rows with it are those of the set with it
pub placed_rows : (r : Record) (rs : List Record) → InOrder rs → AreRows (placed r rs) (put (set_of rs) r)
placed_rows r rs order =
    let others = filter (is_other r) rs in
    let place = part_place (λ x. is_lt (record_order x r)) others (parted r others (InOrder-filter (is_other r) rs order)) in
    subst (λ ys. AreRows ys (put (set_of rs) r)) (sym (at_place r rs place.0 order place.1 (λ k d h. place.2.0 k d (omega arith) h) (λ k d h j. place.2.1 k d h j)))
    (put_at_place r rs others place.0 order refl place.1 (λ parts. place.2))

-- ---- a piece that is cut in two

pub inserted_flat : {A : Type 0} (pieces : List (Vec Record A)) (place : ℕ) (first second : Vec Record A) → place < length pieces
    → flat (insert_at (slice_set pieces place first) (suc place) second) ≡ flat (take place pieces) ++ (first.items ++ (second.items ++ flat (drop (suc place) pieces)))
inserted_flat [] place first second inside = absurd (omega arith)
inserted_flat {A = A} (v ∷ vs) zero first second inside = ap (λ l. first.items ++ l) (at_front vs)
  where
    at_front : (xs : List (Vec Record A)) → flat (insert_at xs 0 second) ≡ second.items ++ flat xs
    at_front [] = refl
    at_front (x ∷ xs) = refl
inserted_flat (v ∷ vs) (suc place) first second inside =
    ap (λ l. v.items ++ l) (inserted_flat vs place first second (omega arith)) ∙ sym (append_assoc v.items (flat (take place vs)) (first.items ++ (second.items ++ flat (drop (suc place) vs))))

pub inserted_some : {A : Type 0} (P : Vec Record A → Type 0) (pieces : List (Vec Record A)) (place : ℕ) (first second : Vec Record A) → place < length pieces → AllByRecursion P pieces → P first → P second
    → AllByRecursion P (insert_at (slice_set pieces place first) (suc place) second)
inserted_some P [] place first second inside all p q = absurd (omega arith)
inserted_some {A = A} P (v ∷ vs) zero first second inside all p q = (p, at_front vs all.1)
  where
    at_front : (xs : List (Vec Record A)) → AllByRecursion P xs → AllByRecursion P (insert_at xs 0 second)
    at_front [] rest = (q, tt)
    at_front (x ∷ xs) rest = (q, rest)
inserted_some P (v ∷ vs) (suc place) first second inside all p q = (all.0, inserted_some P vs place first second (omega arith) all.1 p q)

-- ---- a record among pieces

pub place_within : {A : Type 0} (p : Vec Record A → Bool) (pieces : List (Vec Record A)) (place : ℕ) → place < length pieces → AllByRecursion (λ v. p v ≡ true) (take place pieces)
    → ((piece : Vec Record A) → place < length pieces → piece ≡ get_or pieces place piece → (p piece ≡ false) ⊎ (length pieces ≡ suc place)) → (piece : Vec Record A) → piece ≡ get_or pieces place piece
    → (p piece ≡ false) ⊎ (drop (suc place) pieces ≡ [])
place_within p pieces place inside before here piece there = either (here piece inside there)
  where
    either : (p piece ≡ false) ⊎ (length pieces ≡ suc place) → (p piece ≡ false) ⊎ (drop (suc place) pieces ≡ [])
    either (inl stops) = inl stops
    either (inr last) = inr (drop_all (suc place) pieces (omega (arith, last)))

module _ {A : Type 0} (r : Record) (pieces : List (Vec Record A)) (place : ℕ) (piece : Vec Record A) (are : ArePieces pieces) (is : IsPlaceAmong (λ v. last_passes (λ x. is_lt (record_order x r)) v.items) pieces place) (inside : place < length pieces) (there : piece ≡ get_or pieces place piece) where
  abbrev at_it : AreCut pieces place piece
  at_it = are_cut pieces place piece are inside there

  -- the record comes among the rows of its piece
  pub comes_among : placed r (flat pieces) ≡ flat (take place pieces) ++ (placed r piece.items ++ flat (drop (suc place) pieces))
  comes_among =
      ap (placed r) at_it.rows
      ∙ placed_front r (flat (take place pieces)) (piece.items ++ flat (drop (suc place) pieces)) (before_flat r (take place pieces) at_it.front is.before)
      ∙ ap (λ l. flat (take place pieces) ++ l) (either (place_within (λ v. last_passes (λ x. is_lt (record_order x r)) v.items) pieces place inside is.before is.here piece there))
    where
      either : (last_passes (λ x. is_lt (record_order x r)) piece.items ≡ false) ⊎ (drop (suc place) pieces ≡ []) → placed r (piece.items ++ flat (drop (suc place) pieces)) ≡ placed r piece.items ++ flat (drop (suc place) pieces)
      either (inl stops) = placed_back r piece.items (flat (drop (suc place) pieces)) stops (others_behind r piece.items (flat (drop (suc place) pieces)) at_it.above stops)
      either (inr last) =
          (λ i. placed r (piece.items ++ flat (last i))) ∙ ap (placed r) (append-nil piece.items) ∙ sym (append-nil (placed r piece.items)) ∙ (λ i. placed r piece.items ++ flat (sym last i))

  -- the pieces with the rows that it has then
  pub pieces_among : (after : Vec Record A) → after.items ≡ placed r piece.items → ArePieces (slice_set pieces place after) × (flat (slice_set pieces place after) ≡ placed r (flat pieces))
  pieces_among after e =
      let rows : flat (slice_set pieces place after) ≡ placed r (flat pieces) =
      replaced_flat pieces place after inside ∙ ap (λ l. flat (take place pieces) ++ (l ++ flat (drop (suc place) pieces))) e ∙ sym comes_among in
      let are_rows = placed_rows r (flat pieces) are.order in (
        record {
          order = subst InOrder (sym rows) are_rows.order;
          some = some_set pieces place piece after at_it inside (subst (λ l. 0 < length l) (sym e) (some_placed piece.items));
        },
        rows,
      )
    where
      some_placed : (xs : List Record) → 0 < length (placed r xs)
      some_placed [] = omega arith
      some_placed (x ∷ xs) = by_test (is_lt (record_order x r))
        where
          by_test : (b : Bool) → 0 < length (cond b (x ∷ placed r xs) (r ∷ filter (is_other r) (x ∷ xs)))
          by_test true = omega arith
          by_test false = omega arith

-- one piece of one row
pub single_piece : {A : Type 0} (pieces : List (Vec Record A)) (piece : Vec Record A) (r : Record) → pieces ≡ piece ∷ [] → piece.items ≡ r ∷ [] → ArePieces pieces
unfolding IsStrictlySortedBy
single_piece pieces piece r is one =
    let rows : flat pieces ≡ r ∷ [] = ap flat is ∙ append-nil piece.items ∙ one in
    record {
      order = subst InOrder (sym rows) (tt, tt);
      some = subst (AllByRecursion (λ v. 0 < length v.items)) (sym is) (subst (λ l. 0 < length l) (sym one) (omega arith), tt);
    }

-- ---- a change

-- a set without those of some records
abbrev pub cut_all : List Record → Records → Records
cut_all [] set = set
cut_all (r ∷ rs) set = cut_all rs (cut_of set (same_key (key_of r)))

-- a set with records, each in the place of the same one; of two that are the same the first
abbrev pub put_all : List Record → Records → Records
put_all [] set = set
put_all (r ∷ rs) set = put (put_all rs set) r

none_named : (o : Option Record) → o ≡ cond false None o
none_named o = refl

missing : (t n : Bool) (o : Option Record) → cond n None (cond t None o) ≡ cond (t || n) None o
missing true true o = refl
missing true false o = refl
missing false n o = refl

get-cut_all : (rs : List Record) (set : Records) (k : Key) → get (cut_all rs set) k ≡ cond (list_any (λ r. same_key (key_of r) k) rs) None (get set k)
get-cut_all [] set k = refl
get-cut_all (r ∷ rs) set k =
    get-cut_all rs (cut_of set (same_key (key_of r))) k
    ∙ ap (cond (list_any (λ s. same_key (key_of s) k) rs) None) (get-cut set (same_key (key_of r)) k)
    ∙ missing (same_key (key_of r) k) (list_any (λ s. same_key (key_of s) k) rs) (get set k)

chosen : (t : Bool) (r : Record) (f g o : Option Record) → g ≡ option_or f o → cond t (Some r) g ≡ option_or (cond t (Some r) f) o
chosen true r f g o e = refl
chosen false r f g o e = e

get-put_all : (rs : List Record) (set : Records) (k : Key) → get (put_all rs set) k ≡ option_or (find key_cmp k (keyed rs)) (get set k)
get-put_all [] set k = refl
get-put_all (r ∷ rs) set k =
    get-put (put_all rs set) r k ∙ chosen (same_key k (key_of r)) r (find key_cmp k (keyed rs)) (get (put_all rs set) k) (get set k) (get-put_all rs set k)

changed_is : (set : Records) (gone come : List Record) → put_all come (cut_all gone set) ≡ changed set gone come
changed_is set gone come =
    same_sets (put_all come (cut_all gone set)) (changed set gone come) (λ k.
    get-put_all come (cut_all gone set) k
    ∙ ap (option_or (find key_cmp k (keyed come))) (get-cut_all gone set k)
    ∙ sym (get-changed set gone come k ∙ ap (option_or (find key_cmp k (keyed come))) (get-cut set (λ j. list_any (λ r. same_key (key_of r) j) gone) k)))

removed_rows : (rs rows : List Record) (set : Records) → AreRows rows set → AreRows (removed rs rows) (cut_all rs set)
removed_rows [] rows set are = are
removed_rows (r ∷ rs) rows set are = removed_rows rs (filter (is_other r) rows) (cut_of set (same_key (key_of r))) (cut_row r rows (filter (is_other r) rows) set are refl)

put_rows : (rs rows : List Record) (set : Records) → AreRows rows set → AreRows (put_back rs rows) (put_all rs set)
put_rows [] rows set are = are
put_rows (r ∷ rs) rows set are =
    let rest = put_rows rs rows set are in
    let placed_set = placed_rows r (put_back rs rows) rest.order in
    record { order = placed_set.order; set = placed_set.set ∙ ap (λ (s : Records). put s r) rest.set }

-- rows after a change
pub changed_rows : (rows gone come : List Record) → InOrder rows → AreRows (put_back come (removed gone rows)) (changed (set_of rows) gone come)
changed_rows rows gone come order =
    subst (AreRows (put_back come (removed gone rows))) (changed_is (set_of rows) gone come)
    (put_rows come (removed gone rows) (cut_all gone (set_of rows)) (removed_rows gone rows (set_of rows) (record { order = order; set = refl })))

-- ---- rows by their owners

pub owner_down : (name : List (List ℕ)) → GoesDown (λ r. is_lt (canonical_cmp r.owner name))
unfolding IsStrictlySortedBy
owner_down name x y less lt = lt_down (canonical_cmp x.owner name) (canonical_cmp y.owner name) (by_owner (x ∷ y ∷ []) ((less, tt), (tt, tt)) name 0 1 x (omega arith) (omega arith)) lt

-- ---- rows that are put into pieces

pub one_cut_off : {A : Type 0} (pieces : List (Vec Record A)) (rows front all : List Record) (tail : Vec Record A) → front ++ tail.items ≡ rows → rows ++ flat (reverse pieces) ≡ all
    → front ++ flat (reverse (pieces ++ tail ∷ [])) ≡ all
one_cut_off pieces rows front all tail whole is =
    ap (λ vs. front ++ flat vs) (reverse-append pieces (tail ∷ [])) ∙ sym (append_assoc front tail.items (flat (reverse pieces))) ∙ ap (λ l. l ++ flat (reverse pieces)) whole ∙ is

pub some_cut_off : {A : Type 0} (P : Vec Record A → Type 0) (pieces : List (Vec Record A)) (tail : Vec Record A) → P tail → AllByRecursion P (reverse pieces) → AllByRecursion P (reverse (pieces ++ tail ∷ []))
some_cut_off P pieces tail some all = subst (AllByRecursion P) (sym (reverse-append pieces (tail ∷ []))) (some, all)

pub one_joined : {A : Type 0} (pieces : List (Vec Record A)) (i : ℕ) (piece : Vec Record A) (rows : List Record) → i < length pieces → piece ≡ get_or pieces i piece → rows ≡ flat (take i pieces) → rows ++ piece.items ≡ flat (take (i + 1) pieces)
one_joined pieces i piece rows inside there is =
    let next : take (i + 1) pieces ≡ take i pieces ++ piece ∷ [] = rw add-one (take-suc pieces i piece inside ∙ ap (λ v. take i pieces ++ v ∷ []) (sym there)) in
    ap (λ l. l ++ piece.items) is ∙ ap (λ l. flat (take i pieces) ++ l) (sym (append-nil piece.items)) ∙ sym (ap flat next ∙ flat_append (take i pieces) (piece ∷ []))

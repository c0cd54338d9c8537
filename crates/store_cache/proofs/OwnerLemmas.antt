-- The rows of pieces whose owners are meant.
use Rattle.std.proofs.Common.{◌≡◌, ℕ, suc, ◌-◌, ◌<◌, ◌≤◌, List, [], ◌∷◌, ◌++◌, length, take, drop, get_or, Vec, Bool, true, false, cond, refl, sym, ap, subst, ◌∙◌, append-nil, arith}
use Rattle.std.specs.declared.cmp.Ordering.{Ordering}
use Rattle.std.specs.declared.cmp.Ordering.TheVariants.{Less, Equal, Greater}
use Rattle.std.specs.Cmp.{tied_itself}
use Rattle.std.specs.Ordering.{is_lt, is_le, is_eq, ordering_index}
use Rattle.std.specs.List.{AllByRecursion, filter}
use Rattle.std.specs.List.Sorted.{IsStrictlySortedBy}
use Rattle.std.proofs.lemmas.List.{take-append-drop, take_all}
use Rattle.std.proofs.lemmas.List.Elements.{filter-append}
use Rattle.dns_names.specs.Order.{canonical_cmp, canonical_total}
use Rattle.dns_data.specs.declared.record.Record.{Record}
use Rattle.zone_core.specs.Sets.{key_of, record_order, InOrder}
use Rattle.zone_core.proofs.RangeLemmas.{by_owner, rest_is}
use Rattle.zone_core.proofs.SetLemmas.{name_is}
use Rattle.zone_core.proofs.WithinLemmas.{not_before, between}
use Rattle.store_cache.specs.declared.owners.Owners.{Owners}
use Rattle.store_cache.specs.declared.owners.Owners.TheVariants.{At, Within}
use Rattle.store_cache.specs.Owners.{has_key, first_name}
use Rattle.store_cache.specs.RowPieces.{flat, ArePieces, IsPlace, last_passes}
use Rattle.store_cache.proofs.PieceLemmas.{Above, all_parts, all_joined, cut, flat_append, last_fails, order_parts, owner_down}

-- ---- orders

le_index : (o p : Ordering) → p ≡ Equal → ordering_index o ≤ ordering_index p → is_le o ≡ true
le_index Less p e le = refl
le_index Equal p e le = refl
le_index Greater Less e le = absurd cc
le_index Greater Equal e le = absurd (omega arith)
le_index Greater Greater e le = absurd cc

order_here : (o : Ordering) → is_lt o ≡ false → is_le o ≡ true → is_eq o ≡ true
order_here Less e h = absurd cc
order_here Equal e h = refl
order_here Greater e h = absurd cc

order_lower : (o : Ordering) → is_lt o ≡ true → is_eq o ≡ false
order_lower Less e = refl
order_lower Equal e = absurd cc
order_lower Greater e = absurd cc

owner_le : (x y : Record) → record_order x y ≡ Less → is_le (canonical_cmp x.owner y.owner) ≡ true
unfolding IsStrictlySortedBy
owner_le x y less =
    le_index (canonical_cmp x.owner y.owner) (canonical_cmp y.owner y.owner) (tied_itself canonical_total y.owner)
    (by_owner (x ∷ y ∷ []) ((less, tt), (tt, tt)) y.owner 0 1 x (omega arith) (omega arith))

-- ---- the owners that are meant

abbrev pub is_early : Owners → Record → Bool
is_early owners r = is_lt (canonical_cmp r.owner (first_name owners))

abbrev pub is_meant : Owners → Record → Bool
is_meant owners r = has_key owners (key_of r)

early : (owners : Owners) (x : Record) → is_early owners x ≡ true → is_meant owners x ≡ false
early (At name) x e = order_lower (canonical_cmp x.owner name.now) e
early (Within name) x e = not_before name.now x.owner e

between_them : (owners : Owners) (x y : Record) → record_order x y ≡ Less → is_early owners x ≡ false → is_meant owners y ≡ true → is_meant owners x ≡ true
between_them (At name) x y less low is =
    order_here (canonical_cmp x.owner name.now) low (subst (λ n. is_le (canonical_cmp x.owner n) ≡ true) (name_is y.owner name.now is) (owner_le x y less))
between_them (Within name) x y less low is = between name.now x.owner y.owner low (owner_le x y less) is

-- ---- rows without them

none_of : (p : Record → Bool) (xs : List Record) → AllByRecursion (λ x. p x ≡ false) xs → filter p xs ≡ []
none_of p [] all = refl
none_of p (x ∷ xs) all = ap (λ b. cond b (x ∷ filter p xs) (filter p xs)) all.0 ∙ none_of p xs all.1

none_are : (p : Record → Bool) (xs : List Record) → filter p xs ≡ [] → AllByRecursion (λ x. p x ≡ false) xs
none_are p [] e = tt
none_are p (x ∷ xs) e = by_test (p x) refl e (λ f. none_are p xs f)
  where
    some : (ys : List Record) → x ∷ ys ≡ [] → (A : Type 0) → A
    some ys e A = absurd cc

    by_test : (b : Bool) → p x ≡ b → cond b (x ∷ filter p xs) (filter p xs) ≡ [] → (filter p xs ≡ [] → AllByRecursion (λ y. p y ≡ false) xs) → AllByRecursion (λ y. p y ≡ false) (x ∷ xs)
    by_test true t e rest = some (filter p xs) e (AllByRecursion (λ y. p y ≡ false) (x ∷ xs))
    by_test false t e rest = (t, rest e)

-- ---- before them

all_early : (owners : Owners) (xs : List Record) → InOrder xs → last_passes (is_early owners) xs ≡ true → AllByRecursion (λ x. is_meant owners x ≡ false) xs
unfolding IsStrictlySortedBy
all_early owners xs order last = both (down xs order last)
  where
    down : (ys : List Record) → InOrder ys → last_passes (is_early owners) ys ≡ true → AllByRecursion (λ y. is_early owners y ≡ true) ys
    down [] order last = tt
    down (y ∷ []) order last = (last, tt)
    down (y ∷ z ∷ zs) order last = let rest = down (z ∷ zs) order.1 last in (owner_down (first_name owners) y z order.0.0 rest.0, rest)

    meant : (ys : List Record) → AllByRecursion (λ y. is_early owners y ≡ true) ys → AllByRecursion (λ y. is_meant owners y ≡ false) ys
    meant [] all = tt
    meant (y ∷ ys) all = (early owners y all.0, meant ys all.1)

    both : AllByRecursion (λ y. is_early owners y ≡ true) xs → AllByRecursion (λ y. is_meant owners y ≡ false) xs
    both all = meant xs all

all_early_pieces : {A : Type 0} (owners : Owners) (pieces : List (Vec Record A)) → InOrder (flat pieces) → AllByRecursion (λ v. last_passes (is_early owners) v.items ≡ true) pieces
    → AllByRecursion (λ x. is_meant owners x ≡ false) (flat pieces)
all_early_pieces owners [] order all = tt
all_early_pieces owners (v ∷ vs) order all =
    let parts = order_parts v.items (flat vs) order in
    all_joined (λ x. is_meant owners x ≡ false) v.items (flat vs) (all_early owners v.items parts.0 all.0) (all_early_pieces owners vs parts.1 all.1)

module _ {A : Type 0} (owners : Owners) (pieces : List (Vec Record A)) (start : ℕ) (are : ArePieces pieces) (is : IsPlace (λ v. last_passes (is_early owners) v.items) pieces start) where
  abbrev pub behind_start : List (Vec Record A)
  behind_start = drop start pieces

  parts : flat pieces ≡ flat (take start pieces) ++ flat behind_start
  parts = ap flat (sym (take-append-drop start pieces)) ∙ flat_append (take start pieces) behind_start

  pub from_start : filter (is_meant owners) (flat behind_start) ≡ filter (is_meant owners) (flat pieces)
  from_start =
      let order = order_parts (flat (take start pieces)) (flat behind_start) (subst InOrder parts are.order) in
      ap (λ l. l ++ filter (is_meant owners) (flat behind_start)) (sym (none_of (is_meant owners) (flat (take start pieces)) (all_early_pieces owners (take start pieces) order.0 is.before)))
      ∙ sym (ap (filter (is_meant owners)) parts ∙ filter-append (is_meant owners) (flat (take start pieces)) (flat behind_start))

  -- each piece is in order
  pub piece_order : (k : ℕ) (piece : Vec Record A) → k < length behind_start → piece ≡ get_or behind_start k piece → InOrder piece.items
  piece_order k piece inside there =
      let order = order_parts (flat (take start pieces)) (flat behind_start) (subst InOrder parts are.order) in
      let split = ap flat (cut behind_start k piece inside there) ∙ flat_append (take k behind_start) (piece ∷ drop (suc k) behind_start) in
      let back = order_parts (flat (take k behind_start)) (piece.items ++ flat (drop (suc k) behind_start)) (subst InOrder split order.1) in
      (order_parts piece.items (flat (drop (suc k) behind_start)) back.1).0

  -- and where one has none of them, no later one has
  pub ends_here : (k : ℕ) (piece : Vec Record A) → k < length behind_start → piece ≡ get_or behind_start k piece → filter (is_meant owners) piece.items ≡ []
      → filter (is_meant owners) (flat (take k behind_start)) ≡ filter (is_meant owners) (flat pieces)
  ends_here k piece inside there none =
      let order = order_parts (flat (take start pieces)) (flat behind_start) (subst InOrder parts are.order) in
      let rest = flat (drop (suc k) behind_start) in
      let pieces_cut = cut behind_start k piece inside there in
      let split = ap flat pieces_cut ∙ flat_append (take k behind_start) (piece ∷ drop (suc k) behind_start) in
      let back = order_parts (flat (take k behind_start)) (piece.items ++ rest) (subst InOrder split order.1) in
      let above = (order_parts piece.items rest back.1).2 in
      let late = all_parts (λ v. last_passes (is_early owners) v.items ≡ false) (take k behind_start) (piece ∷ drop (suc k) behind_start) (subst (AllByRecursion (λ v. last_passes (is_early owners) v.items ≡ false)) pieces_cut is.behind) in
      let last = last_fails (is_early owners) (λ x. Above rest x × (is_meant owners x ≡ false)) piece.items (all_pairs (Above rest) (λ x. is_meant owners x ≡ false) piece.items above (none_are (is_meant owners) piece.items none)) late.1.0 in
      sym (append-nil (filter (is_meant owners) (flat (take k behind_start))))
      ∙ ap (λ l. filter (is_meant owners) (flat (take k behind_start)) ++ l)
      (sym (filter-append (is_meant owners) piece.items rest ∙ (λ i. none i ++ none_of (is_meant owners) rest (none_later last.0 rest last.1.0 last.2 last.1.1) i)))
      ∙ sym (ap (filter (is_meant owners)) split ∙ filter-append (is_meant owners) (flat (take k behind_start)) (piece.items ++ rest)) ∙ from_start
    where
      all_pairs : (P Q : Record → Type 0) (xs : List Record) → AllByRecursion P xs → AllByRecursion Q xs → AllByRecursion (λ x. P x × Q x) xs
      all_pairs P Q [] p q = tt
      all_pairs P Q (x ∷ xs) p q = ((p.0, q.0), all_pairs P Q xs p.1 q.1)

      none_later : (x : Record) (ys : List Record) → Above ys x → is_early owners x ≡ false → is_meant owners x ≡ false → AllByRecursion (λ y. is_meant owners y ≡ false) ys
      none_later x [] above low apart = tt
      none_later x (y ∷ ys) above low apart = (by_test (is_meant owners y) refl, none_later x ys above.1 low apart)
        where
          by_test : (b : Bool) → is_meant owners y ≡ b → is_meant owners y ≡ false
          by_test true t = absurd (let no : true ≡ false = sym (between_them owners x y above.0 low t) ∙ apart in cc)
          by_test false t = t

-- ---- as they are seen

module _ {A : Type 0} (owners : Owners) (pieces first second : List (Vec Record A)) (start : ℕ) (name : List (List ℕ)) (are : ArePieces pieces) (one : first ≡ pieces) (two : second ≡ pieces) (named : name ≡ first_name owners) (is : IsPlace (λ v. last_passes (λ r. is_lt (canonical_cmp r.owner name)) v.items) first start) where
  abbrev pub seen : List (Vec Record A)
  seen = take (length second - start) (drop start second)

  same : seen ≡ drop start pieces
  same = rest_is second start ∙ ap (drop start) two

  place : IsPlace (λ v. last_passes (is_early owners) v.items) pieces start
  place = subst (λ n. IsPlace (λ v. last_passes (λ r. is_lt (canonical_cmp r.owner n)) v.items) pieces start) named (subst (λ vs. IsPlace (λ v. last_passes (λ r. is_lt (canonical_cmp r.owner name)) v.items) vs start) one is)

  pub seen_order : (k : ℕ) (piece : Vec Record A) → k < length seen → piece ≡ get_or seen k piece → InOrder piece.items
  seen_order k piece inside there =
      piece_order owners pieces start are place k piece (subst (λ vs. k < length vs) same inside) (there ∙ ap (λ vs. get_or vs k piece) same)

  pub seen_to_end : (k : ℕ) (found : List Record) → length seen ≤ k → found ≡ filter (is_meant owners) (flat (take k seen)) → found ≡ filter (is_meant owners) (flat pieces)
  seen_to_end k found all e =
      e ∙ ap (λ vs. filter (is_meant owners) (flat vs)) (take_all k seen all ∙ same) ∙ from_start owners pieces start are place

  pub seen_to_gap : (k : ℕ) (piece : Vec Record A) (found : List Record) → k < length seen → piece ≡ get_or seen k piece → found ≡ filter (is_meant owners) (flat (take k seen)) → filter (is_meant owners) piece.items ≡ []
      → found ≡ filter (is_meant owners) (flat pieces)
  seen_to_gap k piece found inside there e none =
      e ∙ ap (λ vs. filter (is_meant owners) (flat (take k vs))) same
      ∙ ends_here owners pieces start are place k piece (subst (λ vs. k < length vs) same inside) (there ∙ ap (λ vs. get_or vs k piece) same) none

-- Edits of a table, as it is seen without its rowids.
use Rattle.std.proofs.Common.{◌≡◌, inl, inr, ℤ, Bool, true, false, not, cond, ◌&&◌, ◌||◌, IsTrue, List, [], ◌∷◌, map, filter, drop, refl, sym, ap, subst, ◌∙◌, Less, Equal, Greater, Ordering, IsPermutation}
use Rattle.std.specs.List.{AllByRecursion, list_any}
use Rattle.std.specs.Ordering.{is_eq, match_ordering}
use Rattle.std.proofs.lemmas.Bool.{or_parts, false_from_ne_true}
use Rattle.std.proofs.lemmas.Cmp.{tied_itself, eq_by_cmp_equiv}
use Rattle.std.proofs.lemmas.List.Sorted.{IsPermutation-refl, IsPermutation-cons, IsPermutation-trans, IsPermutation-map, IsPermutation-sym, IsPermutation-middle, list_any-IsPermutation}
use Rattle.sqlite_value.specs.declared.value.Value.TheVariants.{Int}
use Rattle.sqlite_value.specs.Order.{Row, value_cmp}
use Rattle.sqlite_value.proofs.OrderLemmas.{value_cmp_total}
use Rattle.sqlite_trees.specs.Tree.{rowid, has_rowid, put_row, without_rowid}
use Rattle.sqlite_trees.specs.View.{is_int}
use Rattle.sqlite_trees.proofs.TreeLemmas.{all-put_row}
use Rattle.sqlite_trees.proofs.ListLemmas.{ascending-filter, all-filter, all-permutation, IsPermutation-filter}
use Rattle.sqlite_rules.specs.Lists.{Has}
use Rattle.sqlite_rules.specs.Edit.{id_in, is_taken, without_all}
use Rattle.sqlite_rules.specs.Calls.{ids_of}
use Rattle.sqlite_rules.proofs.ListLemmas.{has_filtered, has_kept, all_has, all_from, some_has, some_from}
use Rattle.sqlite_rules.proofs.TableLemmas.{int_is}
use Rattle.store_sql.specs.Stores.{AreApart, IsReadableRow, Stores}
use Rattle.store_sql.proofs.Rowids.{one_row, apart_put}

-- a row that is put where its rowid is free
put_free : (new : Row) (rows : List Row) → is_taken rows new ≡ false → IsPermutation (new ∷ rows) (put_row new rows)
put_free new [] free = IsPermutation-refl _
put_free new (r ∷ rows) free = go (value_cmp (rowid r) (rowid new)) (or_parts _ _ free).0 (put_free new rows (or_parts _ _ free).1)
  where
    go : (o : Ordering) → is_eq o ≡ false → IsPermutation (new ∷ rows) (put_row new rows) → IsPermutation (new ∷ r ∷ rows) (match_ordering o (r ∷ put_row new rows) (new ∷ rows) (new ∷ r ∷ rows))
    go Less other more = IsPermutation-trans _ _ _ (IsPermutation-sym _ _ (IsPermutation-middle (r ∷ []) new rows)) (IsPermutation-cons r _ _ more)
    go Equal other more = absurd (let e : true ≡ false = other in cc)
    go Greater other more = IsPermutation-refl _

all_put : (new : Row) (rows : List Row) → is_taken rows new ≡ false → AllByRecursion (Has (put_row new rows)) (new ∷ rows)
all_put new rows free = all-permutation (Has (put_row new rows)) (put_row new rows) (new ∷ rows) (IsPermutation-sym _ _ (put_free new rows free)) (all_from (Has (put_row new rows)) (put_row new rows) (λ r h. h))

-- the row that comes is there, and so are those that were
pub has_new : (new : Row) (rows : List Row) → is_taken rows new ≡ false → Has (put_row new rows) new
has_new new rows free = all_has (Has (put_row new rows)) (new ∷ rows) new (all_put new rows free) (inl refl)

pub has_put : (new : Row) (rows : List Row) (r : Row) → is_taken rows new ≡ false → Has rows r → Has (put_row new rows) r
has_put new rows r free there = all_has (Has (put_row new rows)) (new ∷ rows) r (all_put new rows free) (inr there)

pub stores_put : (rows xs : List Row) (new : Row) → Stores rows xs → IsReadableRow (drop 1 new) → IsTrue (is_int (rowid new)) → is_taken rows new ≡ false
    → Stores (put_row new rows) (drop 1 new ∷ xs)
stores_put rows xs new h readable int free = record {
  apart = apart_put new rows h.apart free;
  numbered = all-put_row (λ r. IsTrue (is_int (rowid r))) new rows int h.numbered;
  readable = (readable, h.readable);
  same = IsPermutation-trans _ _ _ (IsPermutation-cons (drop 1 new) _ _ h.same) (IsPermutation-map (drop 1) _ _ (put_free new rows free));
}

-- whether a rowid is among these
abbrev pub among : List ℤ → Row → Bool
among ids r = list_any (λ id. has_rowid id r) ids

filter_twice : (p q : Row → Bool) (rows : List Row) → filter p (filter q rows) ≡ filter (λ r. q r && p r) rows
filter_twice p q [] = refl
filter_twice p q (r ∷ rows) = elim (q r) as (λ b. filter p (cond b (r ∷ filter q rows) (filter q rows)) ≡ cond (b && p r) (r ∷ filter (λ s. q s && p s) rows) (filter (λ s. q s && p s) rows)) [
  | true ↦ rw (filter_twice p q rows)
  | false ↦ filter_twice p q rows
]

filter_same : (p q : Row → Bool) (rows : List Row) → ((r : Row) → Has rows r → p r ≡ q r) → filter p rows ≡ filter q rows
filter_same p q [] each = refl
filter_same p q (r ∷ rows) each = rw (each r (inl refl), filter_same p q rows (λ x h. each x (inr h)))

without_is : (ids : List ℤ) (rows : List Row) → without_all rows ids ≡ filter (λ r. not (among ids r)) rows
without_is [] rows = all_in rows
  where
    all_in : (rows : List Row) → rows ≡ filter (λ r. true) rows
    all_in [] = refl
    all_in (r ∷ rows) = ap (λ l. r ∷ l) (all_in rows)
without_is (id ∷ ids) rows = without_is ids (without_rowid id rows) ∙ filter_twice _ _ rows ∙ filter_same _ _ rows (λ r h. elim (has_rowid id r) as (λ b. (not b && not (among ids r)) ≡ not (b || among ids r)) [ true ↦ refl | false ↦ refl ])

-- a row is among the rowids of the rows that pass exactly where it passes
among_is : (p : Row → Bool) (rows : List Row) → AreApart rows → AllByRecursion (λ r. IsTrue (is_int (rowid r))) rows → (r : Row) → Has rows r → among (ids_of (filter p rows)) r ≡ p r
among_is p rows up keyed r h = go (p r) refl
  where
    own : (x : Row) → Has rows x → has_rowid (id_in (rowid x)) x ≡ true
    own x there = let is = int_is (rowid x) (all_has _ rows x keyed there) in rw (is, tied_itself value_cmp_total (Int (id_in (rowid x))))

    mapped : (xs : List Row) (x : Row) → Has xs x → Has (ids_of xs) (id_in (rowid x))
    mapped [] x none = absurd none
    mapped (y ∷ xs) x (inl same) = inl (ap (λ z. id_in (rowid z)) same)
    mapped (y ∷ xs) x (inr later) = inr (mapped xs x later)

    unmapped : (xs : List Row) (id : ℤ) → Has (ids_of xs) id → (x : Row) × Has xs x × (id ≡ id_in (rowid x))
    unmapped [] id none = absurd none
    unmapped (y ∷ xs) id (inl same) = (y, inl refl, same)
    unmapped (y ∷ xs) id (inr later) = let it = unmapped xs id later in (it.0, inr it.1, it.2)

    go : (b : Bool) → p r ≡ b → among (ids_of (filter p rows)) r ≡ b
    go true is = some_from (λ id. has_rowid id r) (ids_of (filter p rows)) (id_in (rowid r)) (mapped _ r (has_kept p rows r h is)) (own r h)
    go false is = false_from_ne_true _ (λ found.
        let some = some_has (λ id. has_rowid id r) (ids_of (filter p rows)) found in
        let from = unmapped (filter p rows) some.0 some.1 in
        let kept = has_filtered p rows from.0 from.1 in
        let id = Int (id_in (rowid from.0)) in
        let equal = eq_by_cmp_equiv value_cmp_total in
        let tie : is_eq (value_cmp (rowid from.0) (rowid r)) ≡ true =
        equal.congr (rowid from.0) id (rowid r) (own from.0 kept.0) ∙ equal.symm id (rowid r) ∙ subst (λ x. has_rowid x r ≡ true) from.2 some.2 in
        let same : from.0 ≡ r = one_row rows from.0 r up kept.0 h tie in
        let passes : p r ≡ true = ap p (sym same) ∙ kept.1 in
        cc)

filter_map : (q : Row → Bool) (f : Row → Row) (rows : List Row) → filter q (map f rows) ≡ map f (filter (λ r. q (f r)) rows)
filter_map q f [] = refl
filter_map q f (r ∷ rows) = elim (q (f r)) as (λ b. cond b (f r ∷ filter q (map f rows)) (filter q (map f rows)) ≡ map f (cond b (r ∷ filter (λ s. q (f s)) rows) (filter (λ s. q (f s)) rows))) [
  | true ↦ ap (λ l. f r ∷ l) (filter_map q f rows)
  | false ↦ filter_map q f rows
]

-- the rows that pass are deleted by their rowids, which come in any order
pub stores_without : (rows xs : List Row) (p : Row → Bool) (ids : List ℤ) → Stores rows xs → IsPermutation (ids_of (filter (λ r. p (drop 1 r)) rows)) ids
    → Stores (without_all rows ids) (filter (λ x. not (p x)) xs)
stores_without rows xs p ids h order =
    let q = λ (r : Row). p (drop 1 r) in
    let each = λ (r : Row) (there : Has rows r). sym (list_any-IsPermutation (λ id. has_rowid id r) _ _ order) ∙ among_is q rows h.apart h.numbered r there in
    let is : without_all rows ids ≡ filter (λ r. not (q r)) rows = without_is ids rows ∙ filter_same _ _ rows (λ r there. ap not (each r there)) in
    rw is (record {
      apart = ascending-filter _ _ rows h.apart;
      numbered = all-filter _ _ rows h.numbered;
      readable = all-filter _ _ xs h.readable;
      same = subst (IsPermutation (filter (λ x. not (p x)) xs)) (filter_map (λ x. not (p x)) (drop 1) rows) (IsPermutation-filter (λ x. not (p x)) _ _ h.same);
    })

-- The parts of a number, read one after the other.
use Rattle.std.proofs.Common.{◌≡◌, ◌∙◌, ap, ap₂, ℕ, ◌+◌, List, [], ◌∷◌, ◌++◌, drop, map, Option, Some, None, refl, sym, append_assoc, Bool, true, false, cond, option_map}
use Rattle.std.specs.Prelude.{◌&&◌, bytes_eq, find, option_and_then}
use Rattle.std.specs.Option.{option_or}
use Rattle.std.specs.Borrow.{Bor}
use Rattle.refusals.specs.declared.row.NumberPlace.{NumberPlace}
use Rattle.refusals.specs.Tables.{RowOf, row_of}
use Rattle.refusals.specs.Numbers.{behind, may_be, row_in, row_numbered, rows_from}
use Rattle.refusals.specs.declared.row.RefusalRow.{RefusalRow}

-- rows that were found, before those of the other parts
abbrev pub with_front : List RowOf → Option (List RowOf) → Option (List RowOf)
with_front found more = option_map (λ rows. found ++ rows) more

abbrev pub parts_from : List (Bor (List ℕ)) → ℕ → List (List ℕ)
parts_from parts i = map (λ part. part.now) (drop i parts)

pub front_none : (more : Option (List RowOf)) → more ≡ with_front [] more
front_none None = refl
front_none (Some rows) = refl

front_more : (found : List RowOf) (row : RowOf) (more : Option (List RowOf))
    → with_front found (option_map (λ rows. row ∷ rows) more) ≡ with_front (found ++ row ∷ []) more
front_more found row None = refl
front_more found row (Some rows) = ap (λ (l : List RowOf). Some l) (sym (append_assoc found (row ∷ []) rows))

module _ (all : List RowOf) (parts : List (Bor (List ℕ))) (found : List RowOf) (at : NumberPlace) (i : ℕ) (part : Bor (List ℕ)) where
  abbrev after_row : Option RowOf → Option (List RowOf)
  after_row o = with_front found (option_and_then (λ row. option_map (λ rows. row ∷ rows) (rows_from all (behind row.kind) (parts_from parts (i + 1)))) o)

  pub rows_more : (row : RowOf) → drop i parts ≡ part ∷ drop (i + 1) parts → Some row ≡ row_in all at part.now
      → with_front found (rows_from all at (parts_from parts i)) ≡ with_front (found ++ row ∷ []) (rows_from all (behind row.kind) (parts_from parts (i + 1)))
  rows_more row here e =
      ap (λ (l : List (Bor (List ℕ))). with_front found (rows_from all at (map (λ p. p.now) l))) here
      ∙ (ap after_row (sym e) ∙ front_more found row (rows_from all (behind row.kind) (parts_from parts (i + 1))))

  pub rows_stop : drop i parts ≡ part ∷ drop (i + 1) parts → None ≡ row_in all at part.now
      → with_front found (rows_from all at (parts_from parts i)) ≡ None
  rows_stop here e =
      ap (λ (l : List (Bor (List ℕ))). with_front found (rows_from all at (map (λ p. p.now) l))) here ∙ ap after_row (sym e)

-- ---- a row that is found

pub found_row : (all : List RefusalRow) (at : NumberPlace) (part : List ℕ)
    → option_map row_of (find (λ row. may_be row.kind at && bytes_eq row.number.now part) all) ≡ row_in (map row_of all) at part
found_row [] at part = refl
found_row (row ∷ all) at part = by_test (may_be row.kind at && bytes_eq row.number.now part) (found_row all at part)
  where
    by_test : (b : Bool)
        → option_map row_of (find (λ r. may_be r.kind at && bytes_eq r.number.now part) all) ≡ row_in (map row_of all) at part
        → option_map row_of (cond b (Some row) (find (λ r. may_be r.kind at && bytes_eq r.number.now part) all)) ≡ cond b (Some (row_of row)) (row_in (map row_of all) at part)
    by_test true more = refl
    by_test false more = more

pub numbered_row : (all : List RefusalRow) (number : List ℕ)
    → option_map row_of (find (λ row. bytes_eq row.number.now number) all) ≡ row_numbered (map row_of all) number
numbered_row [] number = refl
numbered_row (row ∷ all) number = by_test (bytes_eq row.number.now number) (numbered_row all number)
  where
    by_test : (b : Bool)
        → option_map row_of (find (λ r. bytes_eq r.number.now number) all) ≡ row_numbered (map row_of all) number
        → option_map row_of (cond b (Some row) (find (λ r. bytes_eq r.number.now number) all)) ≡ cond b (Some (row_of row)) (row_numbered (map row_of all) number)
    by_test true more = refl
    by_test false more = more

-- ---- the row of a number, in a table and in tables that follow each other

pub numbered_by : {T : Type 0} (f : T → RowOf) (all : List T) (number : List ℕ)
    → option_map f (find (λ t. bytes_eq (f t).number number) all) ≡ row_numbered (map f all) number
numbered_by f [] number = refl
numbered_by {T} f (t ∷ all) number = by_test (bytes_eq (f t).number number) (numbered_by f all number)
  where
    by_test : (b : Bool)
        → option_map f (find (λ u. bytes_eq (f u).number number) all) ≡ row_numbered (map f all) number
        → option_map f (cond b (Some t) (find (λ u. bytes_eq (f u).number number) all)) ≡ cond b (Some (f t)) (row_numbered (map f all) number)
    by_test true more = refl
    by_test false more = more

pub numbered_append : (xs ys : List RowOf) (number : List ℕ) → option_or (row_numbered xs number) (row_numbered ys number) ≡ row_numbered (xs ++ ys) number
numbered_append [] ys number = refl
numbered_append (x ∷ xs) ys number = by_test (bytes_eq x.number number) (numbered_append xs ys number)
  where
    by_test : (b : Bool) → option_or (row_numbered xs number) (row_numbered ys number) ≡ row_numbered (xs ++ ys) number
        → option_or (cond b (Some x) (row_numbered xs number)) (row_numbered ys number) ≡ cond b (Some x) (row_numbered (xs ++ ys) number)
    by_test true more = refl
    by_test false more = more

pub mapped_or : {S T : Type 0} (f : S → T) (a b : Option S) → option_map f (option_or a b) ≡ option_or (option_map f a) (option_map f b)
mapped_or f None b = refl
mapped_or f (Some x) b = refl

-- the row that is found in one list, or else in the next
pub numbered_or : (a b : Option RefusalRow) (xs ys : List RowOf) (number : List ℕ) → option_map row_of a ≡ row_numbered xs number
    → option_map row_of b ≡ row_numbered ys number → option_map row_of (option_or a b) ≡ row_numbered (xs ++ ys) number
numbered_or a b xs ys number p q = mapped_or row_of a b ∙ (ap₂ (λ x y. option_or x y) p q ∙ numbered_append xs ys number)

-- What is kept of several zones.
use Rattle.std.proofs.Common.{◌≡◌, ℕ, suc, ◌<◌, List, [], ◌∷◌, ◌++◌, length, length-append, Bool, true, false, not, cond, Option, Some, None, is_some, take, drop, refl, sym, ap, ◌∙◌, arith}
use Rattle.std.specs.Prelude.{slice_index_or}
use Rattle.std.specs.List.{All, filter, remove}
use Rattle.std.proofs.Math.Seq.{split_at}
use Rattle.std.proofs.lemmas.List.{drop_all}
use Rattle.std.proofs.lemmas.List.Elements.{filter-append}
use Rattle.store_cache.specs.Shelf.{IsTaken}

-- the one at a place that is removed
pub taken_at : {T : Type 0} (test : T → Bool) (xs : List T) (i : ℕ) (x : T) → i < length xs → x ≡ slice_index_or xs i x → ((d : T) → test (slice_index_or xs i d) ≡ true)
    → (before after : List T) × (xs ≡ before ++ x ∷ after) × (remove xs i ≡ before ++ after) × (test x ≡ true)
taken_at test xs i x low is passes =
    (take i xs, drop (suc i) xs, split_at xs i x low ∙ ap (λ y. take i xs ++ y ∷ drop (suc i) xs) (sym is), refl, ap test is ∙ passes x)

-- without one that does not pass
pub filter_taken : {T : Type 0} (test : T → Bool) (before after : List T) (x : T) → test x ≡ true → filter (λ y. not (test y)) (before ++ x ∷ after) ≡ filter (λ y. not (test y)) (before ++ after)
filter_taken {T} test before after x passes =
    let p : T → Bool = λ y. not (test y) in
    filter-append p before (x ∷ after) ∙ ap (λ l. filter p before ++ l) (ap (λ b. cond (not b) (x ∷ filter p after) (filter p after)) passes) ∙ sym (filter-append p before after)

-- all stay where none passes
pub filter_none : {T : Type 0} (test : T → Bool) (xs : List T) → All (λ x. test x ≡ false) xs → filter (λ y. not (test y)) xs ≡ xs
filter_none test [] none = refl
filter_none test (x ∷ xs) none =
    ap (λ b. cond (not b) (x ∷ filter (λ y. not (test y)) xs) (filter (λ y. not (test y)) xs)) (none 0 x (omega arith))
    ∙ ap (λ l. x ∷ l) (filter_none test xs (λ k d low. none (suc k) d (omega (arith, low))))

-- none is left of those that are dropped
pub drop_each : {T : Type 0} (xs : List T) (x : T) → [] ≡ drop (suc (length xs)) (xs ++ x ∷ [])
drop_each xs x = let long = length-append xs (x ∷ []) in sym (drop_all (suc (length xs)) (xs ++ x ∷ []) (omega (arith, long)))

-- ---- what is taken

module _ {T : Type 0} (test : T → Bool) where
  -- the others stay
  pub others_kept : (old new : List T) (found : Option T) → IsTaken test old found new → filter (λ y. not (test y)) new ≡ filter (λ y. not (test y)) old
  others_kept old new None taken = ap (filter (λ y. not (test y))) taken.0
  others_kept old new (Some x) taken =
      ap (filter (λ y. not (test y))) taken.3 ∙ sym (filter_taken test taken.0 taken.1 x taken.4) ∙ sym (ap (filter (λ y. not (test y))) taken.2)

  -- one less is there
  pub one_less : (old new : List T) (found : Option T) → IsTaken test old found new → is_some found ≡ true → length new < length old
  one_less old new None taken some = absurd cc
  one_less old new (Some x) taken some =
      let before = taken.0 in
      let after = taken.1 in
      let was = ap (λ l. length l) taken.2 in
      let is = ap (λ l. length l) taken.3 in
      let long = length-append before (x ∷ after) in
      let short = length-append before after in
      omega (arith, was, is, long, short)

  -- where none is found, none is left
  pub forgotten : (first old new : List T) (found : Option T) → IsTaken test old found new → is_some found ≡ false → filter (λ y. not (test y)) old ≡ filter (λ y. not (test y)) first
      → new ≡ filter (λ y. not (test y)) first
  forgotten first old new None taken none same = taken.0 ∙ sym (filter_none test old taken.1) ∙ same
  forgotten first old new (Some x) taken none same = absurd cc

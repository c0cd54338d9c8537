-- Rows in record order, out of which records go and into which others come.
use Rattle.std.proofs.Common.{◌≡◌, ℕ, suc, ◌+◌, ◌≤◌, nat_lt, List, [], ◌∷◌, ◌++◌, length, take, drop, Bool, true, false, cond, not, Option, Some, None, refl, sym, ap, subst, ◌∙◌, arith}
use Rattle.std.specs.declared.cmp.Ordering.{Ordering}
use Rattle.std.specs.declared.cmp.Ordering.TheVariants.{Less, Equal, Greater}
use Rattle.std.specs.Ordering.{is_lt, is_eq, ordering_reverse}
use Rattle.std.specs.Option.{option_or, unwrap_or}
use Rattle.std.specs.Cmp.{tied_itself}
use Rattle.std.specs.List.{AllByRecursion, filter, position, position_or_len}
use Rattle.std.specs.List.Sorted.{IsStrictlySortedBy}
use Rattle.std.specs.FinMap.{find}
use Rattle.std.proofs.lemmas.Bool.Decides.{nat_tests}
use Rattle.std.proofs.lemmas.List.Sums.{prefix_len-le-length}
use Rattle.std.proofs.lemmas.List.{append-nil, append_assoc}
use Rattle.dns_data.specs.declared.record.Record.{Record}
use Rattle.dns_data.specs.RecordOrder.{record_order_total}
use Rattle.zone_core.specs.Sets.{Key, key_of, key_cmp, keyed, record_order, InOrder}
use Rattle.zone_core.specs.Merges.{before, behind, is_first, merged}
use Rattle.zone_core.proofs.SetLemmas.{key_is}

-- ---- what stands before a record

-- a place, or the length for no place
pub count_is : (p : Record → Bool) (xs : List Record) (place : Option ℕ) → place ≡ position p xs → unwrap_or place (length xs) ≡ position_or_len p xs
count_is p xs place e = ap (λ o. unwrap_or o (length xs)) e ∙ by_test (nat_lt (position_or_len p xs) (length xs)) refl
  where
    at_end : (n l : ℕ) → n ≤ l → nat_lt n l ≡ false → l ≡ n
    at_end n l h e = grind (arith, nat_tests)

    by_test : (b : Bool) → nat_lt (position_or_len p xs) (length xs) ≡ b → unwrap_or (cond b (Some (position_or_len p xs)) None) (length xs) ≡ position_or_len p xs
    by_test true e = refl
    by_test false e = at_end (position_or_len p xs) (length xs) (prefix_len-le-length (λ x. not (p x)) xs) e

pub cut_at : (r : Record) (xs : List Record) (n : ℕ) → n ≡ position_or_len (λ x. not (is_lt (record_order x r))) xs → (take n xs ≡ before r xs) × (drop n xs ≡ behind r xs)
cut_at r [] n e = rw e (refl, refl)
cut_at r (x ∷ xs) n e = by_test (is_lt (record_order x r)) n e (cut_at r xs (position_or_len (λ y. not (is_lt (record_order y r))) xs) refl)
  where
    one_more : (n : ℕ) → 1 + n ≡ suc n
    one_more n = omega arith

    by_test : (b : Bool) (m : ℕ) → m ≡ cond (not (not b)) (1 + position_or_len (λ y. not (is_lt (record_order y r))) xs) 0
        → (take (position_or_len (λ y. not (is_lt (record_order y r))) xs) xs ≡ before r xs) × (drop (position_or_len (λ y. not (is_lt (record_order y r))) xs) xs ≡ behind r xs)
        → (take m (x ∷ xs) ≡ cond b (x ∷ before r xs) []) × (drop m (x ∷ xs) ≡ cond b (behind r xs) (x ∷ xs))
    by_test true m f rest = rw (f ∙ one_more (position_or_len (λ y. not (is_lt (record_order y r))) xs)) (ap (λ ys. x ∷ ys) rest.0, rest.1)
    by_test false m f rest = rw f (refl, refl)

-- One row more: those that come before it are put before it, and it is left out where it goes.
module _ (r : Record) (rows mid next gone left come later : List Record) (front : mid ≡ rows ++ before r come) (later_is : later ≡ behind r come)
    (next_is : next ≡ mid ++ cond (is_first r gone) [] (r ∷ [])) (left_is : left ≡ cond (is_first r gone) (drop 1 gone) gone) where
  pub row_done : (rest : List Record) → next ++ merged rest left later ≡ rows ++ merged (r ∷ rest) gone come
  row_done rest = by_test (is_first r gone) next_is left_is
    where
      by_test : (b : Bool) → next ≡ mid ++ cond b [] (r ∷ []) → left ≡ cond b (drop 1 gone) gone
          → next ++ merged rest left later ≡ rows ++ (before r come ++ cond b (merged rest (drop 1 gone) (behind r come)) (r ∷ merged rest gone (behind r come)))
      by_test true n l = rw (n, l, later_is, front) (simp (append-nil, append_assoc))
      by_test false n l = rw (n, l, later_is, front) (simp append_assoc)

-- ---- records above one

abbrev Above : Record → List Record → Type 0
Above x xs = AllByRecursion (λ y. record_order x y ≡ Less) xs

above_more : (x y : Record) (xs : List Record) → record_order x y ≡ Less → Above y xs → Above x xs
above_more x y [] less all = tt
above_more x y (z ∷ xs) less all = (record_order_total.trans x y z less all.0, above_more x y xs less all.1)

above_append : (x : Record) (xs ys : List Record) → Above x xs → Above x ys → Above x (xs ++ ys)
above_append x [] ys front back = back
above_append x (y ∷ xs) ys front back = (front.0, above_append x xs ys front.1 back)

above_before : (x r : Record) (xs : List Record) → Above x xs → Above x (before r xs)
above_before x r [] all = tt
above_before x r (y ∷ xs) all = by_test (is_lt (record_order y r)) (above_before x r xs all.1)
  where
    by_test : (b : Bool) → Above x (before r xs) → Above x (cond b (y ∷ before r xs) [])
    by_test true rest = (all.0, rest)
    by_test false rest = tt

above_behind : (x r : Record) (xs : List Record) → Above x xs → Above x (behind r xs)
above_behind x r [] all = tt
above_behind x r (y ∷ xs) all = by_test (is_lt (record_order y r)) (above_behind x r xs all.1)
  where
    by_test : (b : Bool) → Above x (behind r xs) → Above x (cond b (behind r xs) (y ∷ xs))
    by_test true rest = rest
    by_test false rest = all

above_merged : (x : Record) (rs gone come : List Record) → Above x rs → Above x come → Above x (merged rs gone come)
above_merged x [] gone come rows all = all
above_merged x (r ∷ rs) gone come rows all =
    let rest = above_behind x r come all in
    above_append x (before r come) _ (above_before x r come all)
    (by_test (is_first r gone) _ _ (above_merged x rs (drop 1 gone) (behind r come) rows.1 rest) (above_merged x rs gone (behind r come) rows.1 rest))
  where
    by_test : (b : Bool) (xs ys : List Record) → Above x xs → Above x ys → Above x (cond b xs (r ∷ ys))
    by_test true xs ys gone_rest kept_rest = gone_rest
    by_test false xs ys gone_rest kept_rest = (rows.0, kept_rest)

-- ---- the order

lt_is : (o : Ordering) → is_lt o ≡ true → o ≡ Less
lt_is Less e = refl
lt_is Equal e = absurd cc
lt_is Greater e = absurd cc

behind_order : (r : Record) (xs : List Record) → InOrder xs → InOrder (behind r xs)
unfolding IsStrictlySortedBy
behind_order r [] order = tt
behind_order r (x ∷ xs) order = by_test (is_lt (record_order x r)) (behind_order r xs order.1)
  where
    by_test : (b : Bool) → InOrder (behind r xs) → InOrder (cond b (behind r xs) (x ∷ xs))
    by_test true rest = rest
    by_test false rest = order

-- what stands after a record that is not there is above it
higher : (a b : Ordering) → a ≡ ordering_reverse b → is_lt b ≡ false → is_eq a ≡ false → a ≡ Less
higher a Less e low apart = absurd cc
higher a Equal e low apart = absurd (let f = rw e at apart in cc)
higher a Greater e low apart = e

not_first : (b : Bool) (x : Record) (o : Option Record) → cond b (Some x) o ≡ None → (b ≡ false) × (o ≡ None)
not_first true x o e = absurd cc
not_first false x o e = (refl, e)

behind_above : (r : Record) (xs : List Record) → InOrder xs → find key_cmp (key_of r) (keyed xs) ≡ None → Above r (behind r xs)
unfolding IsStrictlySortedBy
behind_above r [] order none = tt
behind_above r (x ∷ xs) order none =
    let apart = not_first (is_eq (record_order r x)) x (find key_cmp (key_of r) (keyed xs)) none in
    by_test (is_lt (record_order x r)) refl apart.0 (behind_above r xs order.1 apart.1)
  where
    by_test : (b : Bool) → is_lt (record_order x r) ≡ b → is_eq (record_order r x) ≡ false → Above r (behind r xs) → Above r (cond b (behind r xs) (x ∷ xs))
    by_test true e apart rest = rest
    by_test false e apart rest =
        let less = higher (record_order r x) (record_order x r) (record_order_total.antisymm r x) e apart in
        (less, above_more r x xs less order.0)

-- the records before one, and then others that are above each of them
joined : (r : Record) (xs ys : List Record) → InOrder xs → InOrder ys → ((x : Record) → record_order x r ≡ Less → Above x (behind r xs) → Above x ys) → InOrder (before r xs ++ ys)
unfolding IsStrictlySortedBy
joined r [] ys order others above = others
joined r (x ∷ xs) ys order others above = by_test (is_lt (record_order x r)) refl above (joined r xs ys order.1 others)
  where
    by_test : (b : Bool) → is_lt (record_order x r) ≡ b → ((y : Record) → record_order y r ≡ Less → Above y (cond b (behind r xs) (x ∷ xs)) → Above y ys)
        → (((y : Record) → record_order y r ≡ Less → Above y (behind r xs) → Above y ys) → InOrder (before r xs ++ ys))
        → InOrder (cond b (x ∷ before r xs) [] ++ ys)
    by_test true e more rest = (
      above_append x (before r xs) ys (above_before x r xs order.0) (more x (lt_is (record_order x r) e) (above_behind x r xs order.0)),
      rest more,
    )
    by_test false e more rest = others

-- what is found in two rows after each other
pub found_append : (k : Key) (xs ys : List Record) → find key_cmp k (keyed (xs ++ ys)) ≡ option_or (find key_cmp k (keyed xs)) (find key_cmp k (keyed ys))
found_append k [] ys = refl
found_append k (x ∷ xs) ys = either (is_eq (key_cmp k (key_of x))) _ _ _ (found_append k xs ys)
  where
    either : (b : Bool) (o p q : Option Record) → q ≡ option_or o p → cond b (Some x) q ≡ option_or (cond b (Some x) o) p
    either true o p q e = refl
    either false o p q e = e

-- ---- rows out of which those that pass a test go

module _ (goes : Record → Bool) where
  -- the first of them is the next row exactly where that goes
  first_apart : (r : Record) (xs : List Record) → Above r xs → is_first r (filter goes xs) ≡ false
  first_apart r [] all = refl
  first_apart r (x ∷ xs) all = by_test (goes x) (first_apart r xs all.1)
    where
      turned : (a b : Ordering) → a ≡ ordering_reverse b → b ≡ Less → is_eq a ≡ false
      turned a b e f = rw (e, f) refl

      by_test : (b : Bool) → is_first r (filter goes xs) ≡ false → is_first r (cond b (x ∷ filter goes xs) (filter goes xs)) ≡ false
      by_test true rest = turned (record_order x r) (record_order r x) (record_order_total.antisymm x r) all.0
      by_test false rest = rest

  -- one step
  pub step : (r : Record) (rs come : List Record) → InOrder (r ∷ rs)
      → merged (r ∷ rs) (filter goes (r ∷ rs)) come ≡ before r come ++ cond (goes r) (merged rs (filter goes rs) (behind r come)) (r ∷ merged rs (filter goes rs) (behind r come))
  unfolding IsStrictlySortedBy
  step r rs come order = by_test (goes r) (first_apart r rs order.0)
    where
      by_test : (b : Bool) → is_first r (filter goes rs) ≡ false
          → merged (r ∷ rs) (cond b (r ∷ filter goes rs) (filter goes rs)) come ≡ before r come ++ cond b (merged rs (filter goes rs) (behind r come)) (r ∷ merged rs (filter goes rs) (behind r come))
      by_test true apart =
          ap (λ o. before r come ++ cond (is_eq o) (merged rs (filter goes rs) (behind r come)) (r ∷ merged rs (r ∷ filter goes rs) (behind r come))) (tied_itself record_order_total r)
      by_test false apart =
          ap (λ b. before r come ++ cond b (merged rs (drop 1 (filter goes rs)) (behind r come)) (r ∷ merged rs (filter goes rs) (behind r come))) apart

  -- rows that stay are not among those that come
  abbrev pub Fresh : List Record → List Record → Type 0
  Fresh rs come = AllByRecursion (λ r. goes r ≡ false → find key_cmp (key_of r) (keyed come) ≡ None) rs

  -- what is found before a record and after it
  found_parts : (k : Key) (r : Record) (xs : List Record) → find key_cmp k (keyed xs) ≡ option_or (find key_cmp k (keyed (before r xs))) (find key_cmp k (keyed (behind r xs)))
  found_parts k r [] = refl
  found_parts k r (x ∷ xs) = by_test (is_lt (record_order x r)) (found_parts k r xs)
    where
      either : (b : Bool) (o p q : Option Record) → q ≡ option_or o p → cond b (Some x) q ≡ option_or (cond b (Some x) o) p
      either true o p q e = refl
      either false o p q e = e

      by_test : (b : Bool) → find key_cmp k (keyed xs) ≡ option_or (find key_cmp k (keyed (before r xs))) (find key_cmp k (keyed (behind r xs)))
          → find key_cmp k (keyed (x ∷ xs)) ≡ option_or (find key_cmp k (keyed (cond b (x ∷ before r xs) []))) (find key_cmp k (keyed (cond b (behind r xs) (x ∷ xs))))
      by_test true rest = either (is_eq (key_cmp k (key_of x))) (find key_cmp k (keyed (before r xs))) (find key_cmp k (keyed (behind r xs))) (find key_cmp k (keyed xs)) rest
      by_test false rest = refl

  nothing_behind : (a b : Option Record) → option_or a b ≡ None → b ≡ None
  nothing_behind None b e = e
  nothing_behind (Some x) b e = absurd cc

  fresh_behind : (r : Record) (come : List Record) (rs : List Record) → Fresh rs come → Fresh rs (behind r come)
  fresh_behind r come [] fresh = tt
  fresh_behind r come (s ∷ rs) fresh = (
    λ stays. nothing_behind (find key_cmp (key_of s) (keyed (before r come))) (find key_cmp (key_of s) (keyed (behind r come))) (sym (found_parts (key_of s) r come) ∙ fresh.0 stays),
    fresh_behind r come rs fresh.1,
  )

  pub merged_order : (rs come : List Record) → InOrder rs → InOrder come → Fresh rs come → InOrder (merged rs (filter goes rs) come)
  unfolding IsStrictlySortedBy
  merged_order [] come order others fresh = others
  merged_order (r ∷ rs) come order others fresh =
      let rest = merged_order rs (behind r come) order.1 (behind_order r come others) (fresh_behind r come rs fresh.1) in
      subst InOrder (sym (step r rs come order))
      (joined r come _ others (by_test (goes r) refl rest)
      (λ x less above. above_next x less (goes r) (above_merged x rs (filter goes rs) (behind r come) (above_more x r rs less order.0) above)))
    where
      by_test : (b : Bool) → goes r ≡ b → InOrder (merged rs (filter goes rs) (behind r come)) → InOrder (cond b (merged rs (filter goes rs) (behind r come)) (r ∷ merged rs (filter goes rs) (behind r come)))
      by_test true e rest = rest
      by_test false e rest = (above_merged r rs (filter goes rs) (behind r come) order.0 (behind_above r come others (fresh.0 e)), rest)

      above_next : (x : Record) → record_order x r ≡ Less → (b : Bool) → Above x (merged rs (filter goes rs) (behind r come)) → Above x (cond b (merged rs (filter goes rs) (behind r come)) (r ∷ merged rs (filter goes rs) (behind r come)))
      above_next x less true rest = rest
      above_next x less false rest = (less, rest)

  or_assoc : (a b c : Option Record) → option_or a (option_or b c) ≡ option_or (option_or a b) c
  or_assoc None b c = refl
  or_assoc (Some x) b c = refl

  pub merged_found : (k : Key) (rs come : List Record) → InOrder rs → Fresh rs come
      → find key_cmp k (keyed (merged rs (filter goes rs) come)) ≡ option_or (find key_cmp k (keyed come)) (find key_cmp k (keyed (filter (λ r. not (goes r)) rs)))
  unfolding IsStrictlySortedBy
  merged_found k [] come order fresh = or_none (find key_cmp k (keyed come))
    where
      or_none : (o : Option Record) → o ≡ option_or o None
      or_none None = refl
      or_none (Some x) = refl
  merged_found k (r ∷ rs) come order fresh =
      ap (λ xs. find key_cmp k (keyed xs)) (step r rs come order)
      ∙ found_append k (before r come) _
      ∙ ap (option_or (find key_cmp k (keyed (before r come)))) (by_test (goes r) refl (merged_found k rs (behind r come) order.1 (fresh_behind r come rs fresh.1)))
      ∙ or_assoc (find key_cmp k (keyed (before r come))) (find key_cmp k (keyed (behind r come))) _
      ∙ ap (λ o. option_or o (find key_cmp k (keyed (filter (λ x. not (goes x)) (r ∷ rs))))) (sym (found_parts k r come))
    where
      -- where the record is found, nothing is found after it
      here : (t : Bool) (c f : Option Record) → (t ≡ true → c ≡ None) → cond t (Some r) (option_or c f) ≡ option_or c (cond t (Some r) f)
      here true c f none = rw (none refl) refl
      here false c f none = refl

      by_test : (b : Bool) → goes r ≡ b
          → find key_cmp k (keyed (merged rs (filter goes rs) (behind r come))) ≡ option_or (find key_cmp k (keyed (behind r come))) (find key_cmp k (keyed (filter (λ x. not (goes x)) rs)))
          → find key_cmp k (keyed (cond b (merged rs (filter goes rs) (behind r come)) (r ∷ merged rs (filter goes rs) (behind r come))))
          ≡ option_or (find key_cmp k (keyed (behind r come))) (find key_cmp k (keyed (cond (not b) (r ∷ filter (λ x. not (goes x)) rs) (filter (λ x. not (goes x)) rs))))
      by_test true e rest = rest
      by_test false e rest =
          ap (cond (is_eq (key_cmp k (key_of r))) (Some r)) rest
          ∙ here (is_eq (key_cmp k (key_of r))) (find key_cmp k (keyed (behind r come))) (find key_cmp k (keyed (filter (λ x. not (goes x)) rs)))
          (λ same. nothing_behind (find key_cmp k (keyed (before r come))) (find key_cmp k (keyed (behind r come)))
          (sym (found_parts k r come) ∙ ap (λ j. find key_cmp j (keyed come)) (key_is k (key_of r) same) ∙ fresh.0 e))

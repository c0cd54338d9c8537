-- A row that is sorted, and of which repeats are dropped, stands for the same set.
use Rattle.std.proofs.Common.{◌≡◌, List, [], ◌∷◌, Bool, true, false, cond, not, ◌&&◌, Option, Some, None, refl, sym, ap, subst, ◌∙◌}
use Rattle.std.specs.declared.cmp.Ordering.{Ordering}
use Rattle.std.specs.declared.cmp.Ordering.TheVariants.{Less, Equal, Greater}
use Rattle.std.specs.Ordering.{is_lt, is_eq, ordering_reverse}
use Rattle.std.specs.List.{filter, dedup, dedup_from}
use Rattle.std.specs.List.Sorted.{IsSorted, ties}
use Rattle.std.specs.FinMap.{find}
use Rattle.std.proofs.lemmas.List.Elements.{filter_agree}
use Rattle.std.proofs.lemmas.List.Kept.{IsStrictlySortedBy-dedup}
use Rattle.dns_data.specs.declared.record.Record.{Record}
use Rattle.dns_data.specs.RecordOrder.{record_order_total}
use Rattle.zone_core.specs.Sets.{Key, key_of, key_cmp, record_order, same_key, keyed, set_of, InOrder}
use Rattle.zone_core.specs.Zones.{first_of}
use Rattle.zone_core.proofs.SetLemmas.{same_sets, key_is}
use Rattle.zone_core.proofs.RowLemmas.{get-set_of, found_key}

-- ---- sorting keeps the first of each that are the same

tie_is : (a b : Ordering) → a ≡ ordering_reverse b → (not (is_lt a) && not (is_lt b)) ≡ is_eq a
tie_is a Less e = rw e refl
tie_is a Equal e = rw e refl
tie_is a Greater e = rw e refl

pub ties_is : (x y : Record) → ties (λ a b. is_lt (record_order a b)) x y ≡ same_key (key_of x) (key_of y)
ties_is x y = tie_is (record_order x y) (record_order y x) (record_order_total.antisymm x y)

-- what is found under a key is the first record with it
find_first : (k : Key) (rs : List Record) → find key_cmp k (keyed rs) ≡ first_of (filter (λ r. same_key k (key_of r)) rs)
find_first k [] = refl
find_first k (r ∷ rs) = by_test (same_key k (key_of r)) (find_first k rs)
  where
    by_test : (b : Bool) → find key_cmp k (keyed rs) ≡ first_of (filter (λ r. same_key k (key_of r)) rs)
        → cond b (Some r) (find key_cmp k (keyed rs)) ≡ first_of (cond b (r ∷ filter (λ r. same_key k (key_of r)) rs) (filter (λ r. same_key k (key_of r)) rs))
    by_test true e = refl
    by_test false e = e

-- those that tie with a record stand in the same order in both rows
module _ (xs ys : List Record) (stable : (x : Record) → filter (ties (λ a b. is_lt (record_order a b)) x) ys ≡ filter (ties (λ a b. is_lt (record_order a b)) x) xs) where
  -- under the key of a record
  same_at : (k : Key) (x : Record) → k ≡ key_of x → find key_cmp k (keyed ys) ≡ find key_cmp k (keyed xs)
  same_at k x e =
      let tied : (rs : List Record) → filter (ties (λ a b. is_lt (record_order a b)) x) rs ≡ filter (λ r. same_key k (key_of r)) rs =
      λ rs. filter_agree (ties (λ a b. is_lt (record_order a b)) x) (λ r. same_key k (key_of r)) (λ y. ties_is x y ∙ ap (λ j. same_key j (key_of y)) (sym e)) rs in
      find_first k ys ∙ ap first_of (sym (tied ys) ∙ stable x ∙ tied xs) ∙ sym (find_first k xs)

  by_options : (k : Key) (a b : Option Record) → find key_cmp k (keyed ys) ≡ a → find key_cmp k (keyed xs) ≡ b → find key_cmp k (keyed ys) ≡ find key_cmp k (keyed xs)
  by_options k (Some y) b e f = same_at k y (found_key ys k y e)
  by_options k None (Some x) e f = same_at k x (found_key xs k x f)
  by_options k None None e f = e ∙ sym f

  pub stable_set : set_of ys ≡ set_of xs
  stable_set =
      same_sets (set_of ys) (set_of xs) (λ k. get-set_of ys k ∙ by_options k (find key_cmp k (keyed ys)) (find key_cmp k (keyed xs)) refl refl ∙ sym (get-set_of xs k))

-- ---- dropping repeats keeps the first of each

abbrev pub repeats : Record → Record → Bool
repeats next kept = is_eq (record_order next kept)

dropped : (b c : Bool) (x y : Record) (o : Option Record) → (c ≡ true → b ≡ true) → cond b (Some x) o ≡ cond b (Some x) (cond c (Some y) o)
dropped true c x y o same = refl
dropped false true x y o same = absurd (let f = same refl in cc)
dropped false false x y o same = refl

find-dedup : (k : Key) (x : Record) (xs : List Record) → find key_cmp k (keyed (dedup_from repeats x xs)) ≡ find key_cmp k (keyed (x ∷ xs))
find-dedup k x [] = refl
find-dedup k x (y ∷ xs) =
    by_test (repeats y x) (λ e. find-dedup k x xs ∙ dropped (same_key k (key_of x)) (same_key k (key_of y)) x y (find key_cmp k (keyed xs)) (λ t. subst (λ j. same_key k j ≡ true) (key_is (key_of y) (key_of x) e) t))
    (ap (cond (same_key k (key_of x)) (Some x)) (find-dedup k y xs))
  where
    by_test : (b : Bool) → (b ≡ true → find key_cmp k (keyed (dedup_from repeats x xs)) ≡ find key_cmp k (keyed (x ∷ y ∷ xs)))
        → find key_cmp k (keyed (x ∷ dedup_from repeats y xs)) ≡ find key_cmp k (keyed (x ∷ y ∷ xs))
        → find key_cmp k (keyed (cond b (dedup_from repeats x xs) (x ∷ dedup_from repeats y xs))) ≡ find key_cmp k (keyed (x ∷ y ∷ xs))
    by_test true e f = e refl
    by_test false e f = f

found-dedup : (k : Key) (rs : List Record) → find key_cmp k (keyed (dedup repeats rs)) ≡ find key_cmp k (keyed rs)
found-dedup k [] = refl
found-dedup k (r ∷ rs) = find-dedup k r rs

pub dedup_set : (rs : List Record) → set_of (dedup repeats rs) ≡ set_of rs
dedup_set rs = same_sets (set_of (dedup repeats rs)) (set_of rs) (λ k. get-set_of (dedup repeats rs) k ∙ found-dedup k rs ∙ sym (get-set_of rs k))

pub dedup_order : (rs : List Record) → IsSorted record_order rs → InOrder (dedup repeats rs)
dedup_order rs sorted = IsStrictlySortedBy-dedup record_order_total (λ x y. refl) rs sorted

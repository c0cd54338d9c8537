-- Rows of the records within a name, and what a change of their set makes of them.
use Rattle.std.proofs.Common.{◌≡◌, ℕ, zero, suc, ◌+◌, ◌<◌, ◌≤◌, List, [], ◌∷◌, ◌++◌, length, take, drop, get_or, Bool, true, false, cond, not, Some, None, refl, sym, ap, subst, ◌∙◌, add-one, arith}
use Rattle.std.specs.declared.cmp.Ordering.{Ordering}
use Rattle.std.specs.declared.cmp.Ordering.TheVariants.{Less, Equal, Greater}
use Rattle.std.specs.Ordering.{is_lt, is_eq}
use Rattle.std.specs.List.{AllByRecursion, filter, insert as insert_at}
use Rattle.std.specs.List.Sorted.{IsStrictlySortedBy, IsPartitionPoint, IsPartitionedBy}
use Rattle.std.specs.FinMap.{find, get}
use Rattle.dns_data.specs.declared.record.Record.{Record}
use Rattle.zone_core.specs.Sets.{Records, key_of, key_cmp, same_key, keyed, set_of, record_order, cut, put, InOrder, AreRows}
use Rattle.zone_core.specs.Merges.{is_first}
use Rattle.zone_core.proofs.SetLemmas.{gone_by_cut, key_is, key_self}
use Rattle.zone_core.proofs.RowLemmas.{get-set_of, set_of-filter, InOrder-filter}
use Rattle.zone_core.proofs.PutLemmas.{IsNew, put_row, parted, put_again, tie_turned}

-- ---- one record

none_here : (x : Record) → Some x ≡ None → (A : Type 0) → A
none_here x e A = absurd cc

-- where no record is the same as one, it is new
new_of_none : (r : Record) (rs : List Record) → find key_cmp (key_of r) (keyed rs) ≡ None → IsNew r rs
new_of_none r [] e = tt
new_of_none r (x ∷ rs) e = by_test (same_key (key_of r) (key_of x)) refl e (new_of_none r rs)
  where
    by_test : (b : Bool) → same_key (key_of r) (key_of x) ≡ b → cond b (Some x) (find key_cmp (key_of r) (keyed rs)) ≡ None → (find key_cmp (key_of r) (keyed rs) ≡ None → IsNew r rs) → IsNew r (x ∷ rs)
    by_test true t e rest = none_here x e (IsNew r (x ∷ rs))
    by_test false t e rest = (t, rest e)

-- ---- a record that goes

-- whether a record is not the same as another
abbrev pub other : Record → Record → Bool
other r x = not (same_key (key_of r) (key_of x))

-- after a record that does not stand before another, none is the same as that
none_behind : (r x : Record) (rs : List Record) → AllByRecursion (λ s. record_order x s ≡ Less) rs → is_lt (record_order x r) ≡ false → filter (other r) rs ≡ rs
none_behind r x [] all low = refl
none_behind r x (s ∷ rs) all low = by_test (same_key (key_of r) (key_of s)) refl (none_behind r x rs all.1 low)
  where
    by_test : (b : Bool) → same_key (key_of r) (key_of s) ≡ b → filter (other r) rs ≡ rs → cond (not b) (s ∷ filter (other r) rs) (filter (other r) rs) ≡ s ∷ rs
    by_test true t e = absurd (let f : true ≡ false = ap is_lt (sym all.0 ∙ ap (key_cmp (key_of x)) (sym (key_is (key_of r) (key_of s) t))) ∙ low in cc)
    by_test false t e = ap (λ l. s ∷ l) e

-- rows without the first of those after a place, if it is the same as a record
abbrev gone_at : Record → List Record → ℕ → List Record
gone_at r rs i = cond (is_first r (drop i rs)) (take i rs ++ drop (suc i) rs) rs

gone_step : (b : Bool) (x : Record) (xs ys zs : List Record) → zs ≡ cond b xs ys → x ∷ zs ≡ cond b (x ∷ xs) (x ∷ ys)
gone_step true x xs ys zs e = ap (λ l. x ∷ l) e
gone_step false x xs ys zs e = ap (λ l. x ∷ l) e

gone_here : (b : Bool) (x : Record) (xs ys : List Record) → xs ≡ ys → cond (not b) (x ∷ xs) xs ≡ cond b ys (x ∷ ys)
gone_here true x xs ys e = e
gone_here false x xs ys e = ap (λ l. x ∷ l) e

apart : (o : Ordering) → is_lt o ≡ true → is_eq o ≡ false
apart Less e = refl
apart Equal e = absurd cc
apart Greater e = absurd cc

found_at : (r : Record) (rs : List Record) (i : ℕ) → InOrder rs → i ≤ length rs
    → ((k : ℕ) (d : Record) → k < i → is_lt (record_order (get_or rs k d) r) ≡ true)
    → ((k : ℕ) (d : Record) → i ≤ k → k < length rs → is_lt (record_order (get_or rs k d) r) ≡ false)
    → filter (other r) rs ≡ gone_at r rs i
unfolding IsStrictlySortedBy
found_at r [] zero order most below above = refl
found_at r [] (suc i) order most below above = absurd (omega arith)
found_at r (x ∷ rs) zero order most below above =
    gone_here (same_key (key_of r) (key_of x)) x (filter (other r) rs) rs (none_behind r x rs order.0 (above 0 x (omega arith) (omega arith)))
    ∙ ap (λ b. cond b rs (x ∷ rs)) (tie_turned r x)
found_at r (x ∷ rs) (suc i) order most below above =
    ap (λ b. cond (not b) (x ∷ filter (other r) rs) (filter (other r) rs)) (tie_turned r x ∙ apart (record_order x r) (below 0 x (omega arith)))
    ∙ gone_step (is_first r (drop i rs)) x (take i rs ++ drop (suc i) rs) rs (filter (other r) rs)
    (found_at r rs i order.1 (omega arith) (λ k d h. below (suc k) d (omega arith)) (λ k d h j. above (suc k) d (omega arith) (omega arith)))

pub gone_is : (r : Record) (rs rest : List Record) (i : ℕ) (b : Bool) → InOrder rs → i ≤ length rs
    → (IsPartitionedBy (λ x. is_lt (record_order x r)) rs → IsPartitionPoint (λ x. is_lt (record_order x r) ≡ true) (λ x. is_lt (record_order x r) ≡ false) rs i)
    → rest ≡ drop i rs → b ≡ is_first r rest → filter (other r) rs ≡ cond b (take i rs ++ drop (i + 1) rs) rs
gone_is r rs rest i b order most parts at is =
    let place = parts (parted r rs order) in
    rw add-one
    (found_at r rs i order most (λ k d h. place.0 k d (omega arith) h) (λ k d h j. place.1 k d h j)
    ∙ ap (λ t. cond t (take i rs ++ drop (suc i) rs) rs) (sym (is ∙ ap (is_first r) at)))

-- ---- a record that comes

-- rows without those that are the same as a record, and with it at its place
pub put_at_place : (r : Record) (rs others : List Record) (i : ℕ) → InOrder rs → others ≡ filter (other r) rs → i ≤ length others
    → (IsPartitionedBy (λ x. is_lt (record_order x r)) others → IsPartitionPoint (λ x. is_lt (record_order x r) ≡ true) (λ x. is_lt (record_order x r) ≡ false) others i)
    → AreRows (insert_at others i r) (put (set_of rs) r)
put_at_place r rs others i order e most parts =
    let in_order : InOrder others = subst InOrder (sym e) (InOrder-filter (other r) rs order) in
    let is : set_of others ≡ cut (set_of rs) (same_key (key_of r)) = ap set_of e ∙ set_of-filter (λ k. not (same_key (key_of r) k)) rs in
    let none : find key_cmp (key_of r) (keyed others) ≡ None =
    sym (get-set_of others (key_of r)) ∙ ap (λ (s : Records). get s (key_of r)) is ∙ gone_by_cut (set_of rs) (same_key (key_of r)) (key_of r) (key_self (key_of r)) in
    let row = put_row r others i in_order most (new_of_none r others none) (parts (parted r others in_order)) in
    record { order = row.0; set = row.1 ∙ ap (λ (s : Records). put s r) is ∙ put_again (set_of rs) r }

-- ---- records that go

pub cut_row : (r : Record) (rs others : List Record) (set : Records) → AreRows rs set → others ≡ filter (other r) rs → AreRows others (cut set (same_key (key_of r)))
cut_row r rs others set are e =
    record {
      order = subst InOrder (sym e) (InOrder-filter (other r) rs are.order);
      set = ap set_of e ∙ set_of-filter (λ k. not (same_key (key_of r) k)) rs ∙ ap (λ (s : Records). cut s (same_key (key_of r))) are.set;
    }

-- The rows of a list of rules, and what a search among them finds.
use Rattle.std.proofs.Common.{◌≡◌, ℕ, zero, suc, ◌+◌, ◌-◌, ◌<◌, ◌≤◌, Bool, true, false, ◌&&◌, cond, List, [], ◌∷◌, ◌++◌, length, take, drop, get_or, Option, Some, None, Ordering, refl, sym, ap, ◌∙◌, ⊎_elim, arith, get_or-take, get_or-drop, length-take, length-drop, count_by}
use Rattle.std.specs.declared.cmp.Ordering.TheVariants.{Less, Equal, Greater}
use Rattle.std.specs.Ordering.{is_lt, is_le, nat_cmp, ordering_index, ordering_then}
use Rattle.std.specs.Option.{option_cmp, option_eq}
use Rattle.std.specs.Cmp.Lexicographic.{slice_cmp}
use Rattle.std.specs.Str.{bytes_eq}
use Rattle.std.specs.List.{All, Contains}
use Rattle.std.specs.List.Sorted.{IsSortedBy, IsPartitionPoint, IsPartitionedBy, IsNonDecreasingBy}
use Rattle.std.proofs.lemmas.Bool.{cases_lt}
use Rattle.std.proofs.lemmas.List.{get_or_default, take_more}
use Rattle.std.proofs.lemmas.List.Elements.{All-take, All-drop}
use Rattle.std.proofs.lemmas.List.Sorted.{All-permutation, sum_by-IsPermutation, Contains-permutation, searchable_from_sorted}
use Rattle.std.proofs.lemmas.List.Sums.{sum_by-cons, sum_by-take-drop}
use Rattle.std.proofs.lemmas.Map.Lookups.{exact_bytes}
use Rattle.std.proofs.lemmas.Cmp.{tied_itself}
use Rattle.std.proofs.lemmas.Slice.Eq.{bytes_eq-Decides}
use Rattle.grant_policy.specs.Index.{IsIndex, IsRow, Names, IndexKey, RowOf, is_at, place_cmp, place_of, place_total, rows_from}
use Rattle.grant_policy.specs.declared.rule.Rule.{Rule}

pub length_rows : (n : ℕ) (rules : List Rule) → length (rows_from n rules) ≡ length rules
length_rows n [] = refl
length_rows n (rule ∷ rules) = ap suc (length_rows (n + 1) rules)

pub row_at : (n : ℕ) (rules : List Rule) (k : ℕ) (d : RowOf) (e : Rule) → k < length rules → get_or (rows_from n rules) k d ≡ record { place = place_of (get_or rules k e); number = n + k }
row_at n [] k d e lt = absurd (omega arith)
row_at n (rule ∷ rules) zero d e lt = ap (λ (m : ℕ). record { place = place_of rule; number = m }) (omega arith)
row_at n (rule ∷ rules) (suc k) d e lt = row_at (n + 1) rules k d e (omega arith) ∙ ap (λ (m : ℕ). record { place = place_of (get_or rules k e); number = m }) (omega arith)

row_number : (n : ℕ) (rules : List Rule) (k : ℕ) (d : RowOf) → k < length rules → (get_or (rows_from n rules) k d).number ≡ n + k
row_number n [] k d lt = absurd (omega arith)
row_number n (rule ∷ rules) zero d lt = omega arith
row_number n (rule ∷ rules) (suc k) d lt = omega (arith, row_number (n + 1) rules k d (omega arith))

-- each row names its rule
pub rows_are : (rules : List Rule) → All (IsRow rules) (rows_from 0 rules)
rows_are rules k r lt =
    let below : k < length rules = omega (arith, length_rows 0 rules) in
    let n : (get_or (rows_from 0 rules) k r).number ≡ k = omega (arith, row_number 0 rules k r below) in
    record { below = omega (arith, n); at = λ f. rw n (ap (λ (x : RowOf). x.place) (sym (row_at 0 rules k r f below))) }

-- the row of a rule
pub row_of : (rules : List Rule) (i : ℕ) (d : Rule) → i < length rules → Contains (rows_from 0 rules) (record { place = place_of (get_or rules i d); number = i })
row_of rules i d lt = (i, omega (arith, length_rows 0 rules), row_at 0 rules i _ d lt ∙ ap (λ (m : ℕ). record { place = place_of (get_or rules i d); number = m }) (omega arith))

-- whether a row is at a place
abbrev pub is_row_at : IndexKey → RowOf → Bool
is_row_at place row = option_eq bytes_eq row.place.caller place.caller && bytes_eq row.place.key place.key

-- as many rows as rules are at a place
pub count_rows : (place : IndexKey) (n : ℕ) (rules : List Rule) → count_by (is_row_at place) (rows_from n rules) ≡ count_by (is_at place.caller place.key) rules
count_rows place n [] = refl
count_rows place n (rule ∷ rules) =
    sum_by-cons (λ row. cond (is_row_at place row) 1 0) (record { place = place_of rule; number = n }) (rows_from (n + 1) rules)
    ∙ ap (λ c. cond (is_at place.caller place.key rule) 1 0 + c) (count_rows place (n + 1) rules)
    ∙ sym (sum_by-cons (λ r. cond (is_at place.caller place.key r) 1 0) rule rules)

-- Places that tie are one.
option_exact : (a b : Option (List ℕ)) → option_cmp (slice_cmp nat_cmp) a b ≡ Equal → a ≡ b
option_exact None None e = refl
option_exact None (Some y) e = cc
option_exact (Some x) None e = cc
option_exact (Some x) (Some y) e = ap Some (exact_bytes x y e)

then_first : (a b : Ordering) → ordering_then a b ≡ Equal → a ≡ Equal
then_first Less b e = e
then_first Equal b e = refl
then_first Greater b e = e

then_second : (a b : Ordering) → ordering_then a b ≡ Equal → b ≡ Equal
then_second Less b e = cc
then_second Equal b e = e
then_second Greater b e = cc

pub place_exact : (x y : IndexKey) → place_cmp x y ≡ Equal → x ≡ y
place_exact x y e =
    let callers = option_exact x.caller y.caller (then_first (option_cmp (slice_cmp nat_cmp) x.caller y.caller) _ e) in
    let keys = exact_bytes x.key y.key (then_second (option_cmp (slice_cmp nat_cmp) x.caller y.caller) _ e) in
    ap (λ (c : Option (List ℕ)). record { caller = c; key = x.key }) callers ∙ ap (λ (k : List ℕ). record { caller = y.caller; key = k }) keys

lt_down : (a b : Ordering) → ordering_index a ≤ ordering_index b → is_lt b ≡ true → is_lt a ≡ true
lt_down Less b le e = refl
lt_down Equal Less le e = absurd (omega arith)
lt_down Equal Equal le e = e
lt_down Equal Greater le e = e
lt_down Greater Less le e = absurd (omega arith)
lt_down Greater Equal le e = absurd (omega arith)
lt_down Greater Greater le e = e

pub le_down : (a b : Ordering) → ordering_index a ≤ ordering_index b → is_le b ≡ true → is_le a ≡ true
le_down Less b le e = refl
le_down Equal b le e = refl
le_down Greater Less le e = absurd (omega arith)
le_down Greater Equal le e = absurd (omega arith)
le_down Greater Greater le e = e

equal_between : (a : Ordering) → is_lt a ≡ false → is_le a ≡ true → a ≡ Equal
equal_between Less fails holds = cc
equal_between Equal fails holds = refl
equal_between Greater fails holds = cc

not_both : (b : Bool) → b ≡ true → b ≡ false → ⊥
not_both b holds fails = cc

le_of_lt : (a : Ordering) → is_lt a ≡ true → is_le a ≡ false → ⊥
le_of_lt Less holds fails = cc
le_of_lt Equal holds fails = cc
le_of_lt Greater holds fails = cc

-- what stands at a place passes its test
at_itself : (place : IndexKey) (row : RowOf) → row.place ≡ place → is_row_at place row ≡ true
at_itself place row e = rw e (both place.caller (bytes_eq place.key place.key) ((bytes_eq-Decides place.key place.key).1 refl))
  where
    both : (c : Option (List ℕ)) (b : Bool) → b ≡ true → (option_eq bytes_eq c c && b) ≡ true
    both None b e = e
    both (Some x) b e = rw ((bytes_eq-Decides x x).1 refl) e

-- a list in which each element passes has as many that pass as elements
count_all : {X : Type 0} (p : X → Bool) (xs : List X) → All (λ x. p x ≡ true) xs → count_by p xs ≡ length xs
count_all p [] all = refl
count_all p (x ∷ xs) all =
    sum_by-cons (λ y. cond (p y) 1 0) x xs
    ∙ ap (λ b. cond b 1 0 + count_by p xs) (all 0 x (omega arith))
    ∙ omega (arith, count_all p xs (λ k d lt. all (suc k) d (omega arith)))

module _ (index : List RowOf) (target : IndexKey) (sorted : IsSortedBy (λ a b. is_lt (place_cmp a.place b.place)) index) where
  abbrev pub before : RowOf → Bool
  before row = is_lt (place_cmp row.place target)

  abbrev pub upto : RowOf → Bool
  upto row = is_le (place_cmp row.place target)

  rises : IsNonDecreasingBy (λ (row : RowOf). ordering_index (place_cmp row.place target)) index
  rises = searchable_from_sorted place_total (λ (row : RowOf). row.place) index target sorted

  pub before_parted : IsPartitionedBy before index
  before_parted i j d le lt e = lt_down _ _ (rises i j d le lt) e

  pub upto_parted : IsPartitionedBy upto index
  upto_parted i j d le lt e = le_down _ _ (rises i j d le lt) e

  module _ (from to : ℕ) (lo : IsPartitionPoint (λ row. before row ≡ true) (λ row. before row ≡ false) index from) (hi : IsPartitionPoint (λ row. upto row ≡ true) (λ row. upto row ≡ false) index to) (from_in : from ≤ length index) (to_in : to ≤ length index) (some : RowOf) where
    pub in_order : from ≤ to
    in_order = ⊎_elim
        (λ (low : to < from). absurd (le_of_lt _ (lo.0 to some (omega arith) low) (hi.1 to some (omega arith) (omega arith))))
        (λ (fine : from ≤ to). fine)
        (cases_lt to from)

    abbrev pub found : List RowOf
    found = take (to - from) (drop from index)

    pub length_found : length found ≡ to - from
    length_found = omega (arith, length-take (to - from) (drop from index), length-drop from index, in_order)

    found_at : (k : ℕ) (d : RowOf) → k < length found → get_or found k d ≡ get_or index (from + k) d
    found_at k d lt = get_or-take (to - from) (drop from index) k d (omega (arith, length_found)) ∙ get_or-drop from index k d

    pub found_place : (k : ℕ) (d : RowOf) → k < length found → (get_or found k d).place ≡ target
    found_place k d lt = ap (λ (r : RowOf). r.place) (found_at k d lt) ∙ place_exact _ _ (equal_between _ (lo.1 (from + k) d (omega arith) (omega (arith, length_found))) (hi.0 (from + k) d (omega arith) (omega (arith, length_found))))

    pub found_few : length found ≤ count_by (is_row_at target) index
    found_few =
        let f : RowOf → ℕ = λ row. cond (is_row_at target row) 1 0 in
        let all : count_by (is_row_at target) found ≡ length found = count_all (is_row_at target) found (λ k d lt. at_itself target (get_or found k d) (found_place k d lt)) in
        omega (arith, all, sum_by-take-drop f index from, sum_by-take-drop f (drop from index) (to - from))

    pub found_all : (k : ℕ) (d : RowOf) → k < length index → (get_or index k d).place ≡ target → (from ≤ k) × (k < to)
    found_all k d lt e =
        let same : place_cmp (get_or index k d).place target ≡ Equal = ap (λ p. place_cmp p target) e ∙ tied_itself place_total target in (
          ⊎_elim (λ (low : k < from). absurd (not_both _ (lo.0 k d (omega arith) low) (ap is_lt same))) (λ (fine : from ≤ k). fine) (cases_lt k from),
          ⊎_elim (λ (fine : k < to). fine) (λ (high : to ≤ k). absurd (not_both _ (ap is_le same) (hi.1 k d high lt))) (cases_lt k to),
        )

pub record Searched (rules : List Rule) (target : IndexKey) (found : List RowOf) : Type 0 where
  pub rows : All (IsRow rules) found
  pub all : (i : ℕ) (d : Rule) → i < length rules → place_of (get_or rules i d) ≡ target → Names found i
  pub few : length found ≤ count_by (is_at target.caller target.key) rules

pub searched : (rules : List Rule) (index : List RowOf) (h : IsIndex rules index) (target : IndexKey) (from to : ℕ) → IsPartitionPoint (λ row. before index target h.sorted row ≡ true) (λ row. before index target h.sorted row ≡ false) index from → IsPartitionPoint (λ row. upto index target h.sorted row ≡ true) (λ row. upto index target h.sorted row ≡ false) index to → from ≤ length index → to ≤ length index → Searched rules target (take (to - from) (drop from index))
searched rules index h target from to lo hi from_in to_in =
    let some : RowOf = record { place = target; number = 0 } in
    let are : All (IsRow rules) index = All-permutation (IsRow rules) (rows_from 0 rules) index h.moved (rows_are rules) in
    record {
      rows = All-take (IsRow rules) (to - from) (drop from index) (All-drop (IsRow rules) from index are);
      all = λ i d lt e.
          let has = Contains-permutation (rows_from 0 rules) index (record { place = place_of (get_or rules i d); number = i }) h.moved (row_of rules i d lt) in
          let k = has.0 in
          let row : RowOf = record { place = place_of (get_or rules i d); number = i } in
          let within = found_all index target h.sorted from to lo hi from_in to_in some k row has.1 (ap (λ (r : RowOf). r.place) has.2 ∙ e) in
          let long = length_found index target h.sorted from to lo hi from_in to_in some in
          let below : k - from < length (take (to - from) (drop from index)) = omega (arith, long, within) in
          record {
            place = k - from;
            below = below;
            is = λ f. ap (λ (r : RowOf). r.number) (get_or_default _ (k - from) f row below ∙ get_or-take (to - from) (drop from index) (k - from) row (omega (arith, within)) ∙ get_or-drop from index (k - from) row ∙ (let e : from + (k - from) ≡ k = omega (arith, within) in ap (λ q. get_or index q row) e) ∙ has.2);
          };
      few = omega (arith, found_few index target h.sorted from to lo hi from_in to_in some, sum_by-IsPermutation (λ row. cond (is_row_at target row) 1 0) (rows_from 0 rules) index h.moved, count_rows target 0 rules);
    }

pub in_order_at : (rules : List Rule) (index : List RowOf) (h : IsIndex rules index) (target : IndexKey) (from to : ℕ) → IsPartitionPoint (λ row. before index target h.sorted row ≡ true) (λ row. before index target h.sorted row ≡ false) index from → IsPartitionPoint (λ row. upto index target h.sorted row ≡ true) (λ row. upto index target h.sorted row ≡ false) index to → from ≤ length index → to ≤ length index → from ≤ to
in_order_at rules index h target from to lo hi from_in to_in = in_order index target h.sorted from to lo hi from_in to_in (record { place = target; number = 0 })

-- the rows of one rule more
rows_push : (n : ℕ) (rules : List Rule) (rule : Rule) → rows_from n (rules ++ rule ∷ []) ≡ rows_from n rules ++ record { place = place_of rule; number = n + length rules } ∷ []
rows_push n [] rule = ap (λ (m : ℕ). record { place = place_of rule; number = m } ∷ []) (omega arith)
rows_push n (r ∷ rules) rule = ap (λ (rows : List RowOf). record { place = place_of r; number = n } ∷ rows) (rows_push (n + 1) rules rule ∙ ap (λ (m : ℕ). rows_from (n + 1) rules ++ record { place = place_of rule; number = m } ∷ []) (omega arith))

pub rows_more : (rules : List Rule) (i : ℕ) (d : Rule) → i < length rules → rows_from 0 (take (i + 1) rules) ≡ rows_from 0 (take i rules) ++ record { place = place_of (get_or rules i d); number = i } ∷ []
rows_more rules i d lt = ap (rows_from 0) (take_more rules i d lt) ∙ rows_push 0 (take i rules) (get_or rules i d) ∙ ap (λ (m : ℕ). rows_from 0 (take i rules) ++ record { place = place_of (get_or rules i d); number = m } ∷ []) (omega (arith, length-take i rules))

pub index_more : (rules : List Rule) (i : ℕ) (rule : Rule) (items : List RowOf) (row : RowOf) → i < length rules → rule ≡ get_or rules i rule → items ≡ rows_from 0 (take i rules) → row ≡ record { place = place_of rule; number = i } → items ++ row ∷ [] ≡ rows_from 0 (take (i + 1) rules)
index_more rules i rule items row lt is so_far row_is =
    ap (λ (xs : List RowOf). xs ++ row ∷ []) so_far
    ∙ ap (λ (r : RowOf). rows_from 0 (take i rules) ++ r ∷ []) (row_is ∙ ap (λ (u : Rule). record { place = place_of u; number = i }) is)
    ∙ sym (rows_more rules i rule lt)

pub take_past : {X : Type 0} (n : ℕ) (xs : List X) → length xs ≤ n → take n xs ≡ xs
take_past zero [] le = refl
take_past zero (x ∷ xs) le = absurd (omega arith)
take_past (suc n) [] le = refl
take_past (suc n) (x ∷ xs) le = ap (λ ys. x ∷ ys) (take_past n xs (omega arith))

pub rest_is : (from : ℕ) (index : List RowOf) → take (length index - from) (drop from index) ≡ drop from index
rest_is from index = take_past (length index - from) (drop from index) (omega (arith, length-drop from index))

pub all_rules : (rules xs : List Rule) (n : ℕ) → length xs ≤ n → xs ≡ rules → take n xs ≡ rules
all_rules rules xs n le e = take_past n xs le ∙ e

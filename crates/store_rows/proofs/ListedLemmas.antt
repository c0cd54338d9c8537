-- The origins and the receipts of a state, by the rows of all.
use Rattle.std.proofs.Common.{◌≡◌, ◌≢◌, ℕ, ℤ, Bool, true, false, cond, List, [], ◌∷◌, map, filter, Option, Some, None, is_some, option_map, Result, Ok, IsPermutation, IsSorted, Contains, refl, sym, ap, subst, ◌∙◌, ◌&&◌, ◌||◌, bytes_eq, inl, inr}
use Rattle.std.proofs.lemmas.Bool.{and_parts, and_from, false_from_ne_true}
use Rattle.std.proofs.lemmas.List.Sorted.{IsPermutation-sym, IsPermutation-trans}
use Rattle.std.specs.declared.cmp.Ordering.TheVariants.{Less, Equal}
use Rattle.std.specs.List.{AllByRecursion, find, list_any}
use Rattle.sqlite_trees.specs.Tree.{IsAscending}
use Rattle.sqlite_trees.proofs.ListLemmas.{pull_back}
use Rattle.sqlite_keyed.proofs.ListLemmas.{all_weaker, ascending-map, ascending_weaker, IsPermutation-filter}
use Rattle.sqlite_rules.specs.Lists.{Has}
use Rattle.sqlite_rules.proofs.ListLemmas.{some_has, some_from, has_kept, has_found, has_contained, contains_had}
use Rattle.dns_names.specs.Labels.{IsName}
use Rattle.dns_names.specs.Order.{canonical_cmp, canonical_total, same_name}
use Rattle.dns_names.specs.Spelling.{name_text}
use Rattle.zone_core.proofs.SetLemmas.{name_is, name_self}
use Rattle.office_model.specs.declared.receipt.Receipt.{Receipt}
use Rattle.office_model.specs.States.{Held, State}
use Rattle.store_sql.specs.Rows.{ReceiptRowOf, RowsOf}
use Rattle.store_rows.specs.declared.ordered.KeptReceipt.{KeptReceipt}
use Rattle.store_rows.specs.declared.row_fault.RowFault.{RowFault}
use Rattle.store_rows.specs.Contents.{ReceiptAt, kept_of, row_of_receipt, IsReceiptAt, held_of, zone_among, receipt_among, AreOfState}
use Rattle.store_rows.specs.Checks.{AreZoneRows, IsOriginText}
use Rattle.store_rows.specs.Listed.{AreOriginsOf, OriginsAreOfZones, kept_order, kept_total, kept_among, AreReceiptsOf, ReceiptsAreThose}
use Rattle.store_rows.specs.RowFaults.{◌>>=◌}
use Rattle.store_rows.specs.RowReading.{each_read, identifier_in, receipt_in, kept_in}
use Rattle.store_rows.proofs.ListLemmas.{all_permutation, apart_moved, ascending_from_pairs, pairs_from_ascending, filter_one, found_list, none_moved, one_moved}
use Rattle.store_rows.proofs.NameLemmas.{bytes_same, bytes_is}
use Rattle.store_rows.proofs.OrderLemmas.{below_other, rises_from, rises_up, sorted_strict}
use Rattle.store_rows.proofs.ReceiptReadLemmas.{Differ, is_under, not_both}
use Rattle.store_rows.proofs.ReceiptRowLaws.{receipt_read}
use Rattle.store_rows.proofs.ReplyLaws.{identifier_read}
use Rattle.store_rows.proofs.RowSteps.{ok_is}
use Rattle.store_rows.proofs.StateChecks.{key_at, not_tied, differ_from}
use Rattle.store_rows.proofs.StoredLaws.{each_given}
use Rattle.store_rows.proofs.ZoneCheckLemmas.{origin_rows, origins_rise, origins_among}

abbrev Labels : Type 0
Labels = List (List ℕ)

-- ---- what is found

any_is_found : {X : Type 0} (p : X → Bool) (xs : List X) → list_any p xs ≡ is_some (find p xs)
any_is_found p [] = refl
any_is_found {X} p (x ∷ xs) = by_test (p x) (any_is_found p xs)
  where
    by_test : (b : Bool) → list_any p xs ≡ is_some (find p xs) → (b || list_any p xs) ≡ is_some (cond b (Some x) (find p xs))
    by_test true later = refl
    by_test false later = later

some_mapped : {X Y : Type 0} (f : X → Y) (found : Option X) → is_some (option_map f found) ≡ is_some found
some_mapped f None = refl
some_mapped f (Some x) = refl

is_there : {X : Type 0} (found : Option X) → is_some found ≡ true → (x : X) × (found ≡ Some x)
is_there None e = absurd cc
is_there (Some x) e = (x, refl)

-- among images
find_map : {X Y : Type 0} (p : Y → Bool) (f : X → Y) (xs : List X) → find p (map f xs) ≡ option_map f (find (λ x. p (f x)) xs)
find_map p f [] = refl
find_map {X} {Y} p f (x ∷ xs) = by_test (p (f x)) (find_map p f xs)
  where
    by_test : (b : Bool) → find p (map f xs) ≡ option_map f (find (λ y. p (f y)) xs) → cond b (Some (f x)) (find p (map f xs)) ≡ option_map f (cond b (Some x) (find (λ y. p (f y)) xs))
    by_test true later = refl
    by_test false later = later

one_found : {X : Type 0} (a b : Option X) → IsPermutation (found_list a) (found_list b) → a ≡ b
one_found None None same = refl
one_found None (Some y) same = absurd (let e = none_moved (y ∷ []) same in cc)
one_found (Some x) None same = absurd (let e = one_moved x [] same in cc)
one_found (Some x) (Some y) same = let e : y ∷ [] ≡ x ∷ [] = one_moved x (y ∷ []) same in cc

-- where no two pass, the order does not count
find_moved : {X : Type 0} (p : X → Bool) (xs ys : List X) → IsPermutation xs ys → IsAscending (λ a b. p a ≡ true → p b ≡ false) xs → IsAscending (λ a b. p a ≡ true → p b ≡ false) ys → find p xs ≡ find p ys
find_moved p xs ys same up also =
    one_found (find p xs) (find p ys) (subst (λ l. IsPermutation l (found_list (find p ys))) (filter_one p xs up) (subst (IsPermutation (filter p xs)) (filter_one p ys also) (IsPermutation-filter p xs ys same)))

-- ---- origins

module _ (version : ℤ) (all : RowsOf) (s : State) (st : AreOfState version all s) (rows : List (List ℕ)) (moved : IsPermutation all.zones rows) where
  abbrev are : AreZoneRows all.zones all.records all.changes
  are = record {
    zones = st.content.zones;
    apart = st.is_content.zones_apart;
    each = st.is_content.zones;
    same_origins = st.same.zones;
    same_records = st.same.records;
    same_changes = st.same.changes;
  }

  pub origins_read : AllByRecursion IsOriginText rows
  origins_read = all_permutation IsOriginText all.zones rows moved (origin_rows all.zones all.records all.changes are)

  pub origins_listed : (os : List Labels) → IsPermutation (map name_text os) rows → AllByRecursion IsName os → IsSorted canonical_cmp os → AreOriginsOf s os
  origins_listed os same named sorted =
      let texts = IsPermutation-trans (map name_text os) rows all.zones same (IsPermutation-sym all.zones rows moved) in
      record {
        order = origins_rise all.zones all.records all.changes are os texts named sorted;
        among = λ o.
            origins_among all.zones all.records all.changes are os texts named sorted o
            ∙ any_is_found (λ z. same_name z.origin o) st.content.zones
            ∙ sym (some_mapped held_of (zone_among st.content.zones o))
            ∙ sym (ap is_some (st.means.zones o));
      }

pub origins_are_of_zones : OriginsAreOfZones
origins_are_of_zones s names l = (
  pairs_from_ascending (λ a b. a ≢ b) names (ascending_weaker (λ a b. canonical_cmp a b ≡ Less) (λ a b. a ≢ b) (below_other canonical_cmp canonical_total) names (rises_up canonical_cmp canonical_total names l.order)),
  λ o. (λ c. is_there (s.zones o) (sym (l.among o) ∙ some_from (λ n. same_name n o) names o (has_contained names o c) (name_self o)), λ held. back o held),
)
  where
    back : (o : Labels) → (held : Held) × (s.zones o ≡ Some held) → Contains names o
    back o held =
        let found = some_has (λ n. same_name n o) names (l.among o ∙ ap is_some held.1) in
        subst (Contains names) (name_is found.0 o found.2) (contains_had names found.0 found.1)

-- ---- receipts

abbrev made : List ℕ → List ℕ → Receipt → Result KeptReceipt RowFault
made caller id receipt = Ok (record { caller = caller; id = id; receipt = receipt })

-- the row of a receipt is read as it
kept_read : (r : ReceiptAt) → IsReceiptAt r → kept_in (row_of_receipt r) ≡ Ok (kept_of r)
kept_read r is =
    let row = row_of_receipt r in
    ap (λ x. x >>= λ caller. identifier_in row.id >>= λ id. receipt_in row >>= λ receipt. made caller id receipt) (identifier_read r.caller is.caller)
    ∙ ap (λ x. x >>= λ id. receipt_in row >>= λ receipt. made r.caller id receipt) (identifier_read r.id is.id)
    ∙ ap (λ x. x >>= λ receipt. made r.caller r.id receipt) (receipt_read r is)

-- two that are kept are of different callers, or under different identifiers
abbrev KeptDiffer : KeptReceipt → KeptReceipt → Type 0
KeptDiffer a b = ¬ ((a.caller ≡ b.caller) × (a.id ≡ b.id))

abbrev Untied : KeptReceipt → KeptReceipt → Type 0
Untied a b = ¬ (kept_order a b ≡ Equal)

-- what is kept is of a caller, under an identifier
abbrev is_kept : List ℕ → List ℕ → KeptReceipt → Bool
is_kept caller id k = bytes_eq k.caller caller && bytes_eq k.id id

-- the receipt of what is found
found_receipt : (found : Option ReceiptAt) → option_map (λ (r : ReceiptAt). r.receipt) found ≡ option_map (λ (k : KeptReceipt). k.receipt) (option_map kept_of found)
found_receipt None = refl
found_receipt (Some r) = refl

module _ (version : ℤ) (all : RowsOf) (s : State) (st : AreOfState version all s) (rows : List ReceiptRowOf) (moved : IsPermutation all.receipts rows) where
  abbrev receipts : List ReceiptAt
  receipts = st.content.receipts

  -- the receipts in the order of the rows
  record AreInTurn : Type 0 where
    own : List ReceiptAt
    same : IsPermutation receipts own
    rows_are : rows ≡ map row_of_receipt own

  in_turn : AreInTurn
  in_turn =
      let to = pull_back row_of_receipt (map row_of_receipt receipts) rows (IsPermutation-trans (map row_of_receipt receipts) all.receipts rows st.same.receipts moved) receipts refl in
      record { own = to.0; same = to.1; rows_are = to.2 }

  abbrev own : List ReceiptAt
  own = in_turn.own

  own_read : each_read kept_in rows ≡ Ok (map kept_of own)
  own_read =
      ap (each_read kept_in) in_turn.rows_are
      ∙ each_given kept_in row_of_receipt kept_of own (all_weaker IsReceiptAt (λ r. kept_in (row_of_receipt r) ≡ Ok (kept_of r)) kept_read own (all_permutation IsReceiptAt receipts own in_turn.same st.is_content.receipts))

  -- the rows are read
  pub rows_read : (ks : List KeptReceipt) × (each_read kept_in rows ≡ Ok ks)
  rows_read = (map kept_of own, own_read)

  differ_moved : (rs : List ReceiptAt) → IsPermutation receipts rs → IsAscending Differ rs
  differ_moved rs same = apart_moved Differ (λ a b d e. d (sym e.0, sym e.1)) receipts rs same (ascending_from_pairs Differ receipts st.is_content.receipts_apart)

  no_two : (caller id : List ℕ) (rs : List ReceiptAt) → IsPermutation receipts rs → IsAscending (λ a b. is_under caller id a ≡ true → is_under caller id b ≡ false) rs
  no_two caller id rs same = ascending_weaker Differ (λ a b. is_under caller id a ≡ true → is_under caller id b ≡ false) (not_both caller id) rs (differ_moved rs same)

  -- in some order they have what the state has
  among : (rs : List ReceiptAt) → IsPermutation receipts rs → (caller id : List ℕ) → s.receipts caller id ≡ option_map (λ k. k.receipt) (kept_among (map kept_of rs) caller id)
  among rs same caller id =
      st.means.receipts caller id
      ∙ ap (option_map (λ r. r.receipt)) (find_moved (is_under caller id) receipts rs same (no_two caller id receipts (IsPermutation-trans receipts rs receipts same (IsPermutation-sym receipts rs same))) (no_two caller id rs same))
      ∙ found_receipt (receipt_among rs caller id)
      ∙ ap (option_map (λ k. k.receipt)) (sym (find_map (is_kept caller id) kept_of rs))

  pub receipts_listed : (ks ls : List KeptReceipt) → each_read kept_in rows ≡ Ok ks → IsPermutation ks ls → IsSorted kept_order ls → AreReceiptsOf s ls
  receipts_listed ks ls read same sorted =
      let is : ks ≡ map kept_of own = sym (ok_is (map kept_of own) ks (sym own_read ∙ read)) in
      let to = pull_back kept_of ks ls same own is in
      let turned = IsPermutation-trans receipts own to.0 in_turn.same to.1 in
      let untied = ascending-map Untied kept_of to.0 (ascending_weaker Differ (λ a b. Untied (kept_of a) (kept_of b)) (λ a b differ. not_tied (key_at a) (key_at b) differ) to.0 (differ_moved to.0 turned)) in
      record {
        order = rises_from kept_order ls (sorted_strict kept_order kept_total ls sorted (subst (IsAscending Untied) (sym to.2) untied));
        among = λ caller id. among to.0 turned caller id ∙ ap (λ l. option_map (λ (k : KeptReceipt). k.receipt) (kept_among l caller id)) (sym to.2);
      }

-- what is found is all that there is
found_is : {X : Type 0} (found : Option X) (x : X) → Has (found_list found) x → found ≡ Some x
found_is None x h = absurd h
found_is (Some y) x (inl same) = ap Some (sym same)
found_is (Some y) x (inr later) = absurd later

pub receipts_are_those : ReceiptsAreThose
receipts_are_those s ks l = (pairs_from_ascending KeptDiffer ks up, λ caller id receipt. (λ c. here caller id receipt (has_contained ks _ c), there caller id receipt))
  where
    up : IsAscending KeptDiffer ks
    up = ascending_weaker (λ a b. kept_order a b ≡ Less) KeptDiffer (λ a b less. differ_from (record { caller = a.caller; id = a.id }) (record { caller = b.caller; id = b.id }) less) ks (rises_up kept_order kept_total ks l.order)

    parts : (caller id : List ℕ) (k : KeptReceipt) → is_kept caller id k ≡ true → (k.caller ≡ caller) × (k.id ≡ id)
    parts caller id k t =
        let both = and_parts (bytes_eq k.caller caller) (bytes_eq k.id id) t in
        (bytes_is k.caller caller both.0, bytes_is k.id id both.1)

    no_two : (caller id : List ℕ) (a b : KeptReceipt) → KeptDiffer a b → is_kept caller id a ≡ true → is_kept caller id b ≡ false
    no_two caller id a b differ t =
        false_from_ne_true (is_kept caller id b) (λ also. let p = parts caller id a t in let q = parts caller id b also in differ (p.0 ∙ sym q.0, p.1 ∙ sym q.1))

    here : (caller id : List ℕ) (receipt : Receipt) → Has ks (record { caller = caller; id = id; receipt = receipt }) → s.receipts caller id ≡ Some receipt
    here caller id receipt h =
        let k : KeptReceipt = record { caller = caller; id = id; receipt = receipt } in
        let passes : is_kept caller id k ≡ true = and_from (bytes_eq caller caller) (bytes_eq id id) (bytes_same caller caller refl) (bytes_same id id refl) in
        let one = filter_one (is_kept caller id) ks (ascending_weaker KeptDiffer (λ a b. is_kept caller id a ≡ true → is_kept caller id b ≡ false) (no_two caller id) ks up) in
        let found = found_is (kept_among ks caller id) k (subst (λ (l : List KeptReceipt). Has l k) one (has_kept (is_kept caller id) ks k h passes)) in
        l.among caller id ∙ ap (option_map (λ (x : KeptReceipt). x.receipt)) found

    there : (caller id : List ℕ) (receipt : Receipt) → s.receipts caller id ≡ Some receipt → Contains ks (record { caller = caller; id = id; receipt = receipt })
    there caller id receipt e = go (kept_among ks caller id) refl (sym (l.among caller id) ∙ e)
      where
        go : (found : Option KeptReceipt) → kept_among ks caller id ≡ found → option_map (λ (k : KeptReceipt). k.receipt) found ≡ Some receipt → Contains ks (record { caller = caller; id = id; receipt = receipt })
        go None is none = absurd cc
        go (Some k) is some =
            let same : k.receipt ≡ receipt = cc in
            let found = has_found (is_kept caller id) ks k is in
            let p = parts caller id k found.1 in
            contains_had ks _ (subst (Has ks) (λ i. record { caller = p.0 i; id = p.1 i; receipt = same i }) found.0)

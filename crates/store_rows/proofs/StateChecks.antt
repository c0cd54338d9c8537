-- Rows of receipts, and all rows: they pass the check exactly where they are a state's.
use Rattle.std.proofs.Common.{◌≡◌, ℕ, ℤ, true, false, List, [], ◌∷◌, map, Err, IsPermutation, IsSorted, refl, sym, ap, subst, ◌∙◌}
use Rattle.std.proofs.lemmas.Bool.{and_from}
use Rattle.std.proofs.lemmas.Cmp.{tied_itself}
use Rattle.std.proofs.lemmas.List.Sorted.{IsPermutation-sym, IsPermutation-trans, IsPermutation-map}
use Rattle.std.proofs.lemmas.Map.Keys.{IsDistinct-head, IsDistinct-tail}
use Rattle.std.proofs.lemmas.Slice.Eq.{bytes_eq-Decides}
use Rattle.std.specs.Prelude.{option_map}
use Rattle.std.specs.declared.cmp.Ordering.{Ordering}
use Rattle.std.specs.declared.cmp.Ordering.TheVariants.{Less, Equal, Greater}
use Rattle.std.specs.Cmp.Lexicographic.{slice_cmp, nat_list_cmp_total}
use Rattle.std.specs.List.{AllByRecursion, IsDistinct}
use Rattle.std.specs.Ordering.{nat_cmp, ordering_then}
use Rattle.sqlite_trees.proofs.ListLemmas.{all_from_map, IsPermutation-same}
use Rattle.sqlite_keyed.proofs.ListLemmas.{all_weaker, all_map, ascending-map, ascending_from_map, ascending_weaker, map-map}
use Rattle.sqlite_trees.specs.Tree.{IsAscending}
use Rattle.dns_names.proofs.KeyLaws.{octets_exact}
use Rattle.office_model.specs.States.{State}
use Rattle.office_model.specs.declared.receipt.Receipt.{Receipt}
use Rattle.store_sql.specs.Rows.{ReceiptRowOf, RowsOf, same_receipt_key}
use Rattle.store_rows.specs.ReceiptRows.{IsRowOfReceipt}
use Rattle.store_rows.specs.declared.row_fault.RowFault.{RowFault}
use Rattle.store_rows.specs.declared.row_fault.RowFault.TheVariants.{BadRow, NoMemory}
use Rattle.store_rows.specs.Contents.{ReceiptAt, receipt_under, ContentOf, row_of_receipt, IsReceiptAt, held_of, zone_among, receipt_among, AreOfState}
use Rattle.store_rows.specs.declared.ordered.ReceiptKey.{ReceiptKey}
use Rattle.store_rows.specs.Orders.{rises}
use Rattle.store_rows.specs.Checks.{AreReceiptRows, AreStateRows, StatesAreByTable, Checks, IsReceiptRow, row_key, receipt_key_order, receipt_key_total}
use Rattle.store_rows.proofs.ListLemmas.{ascending_from_pairs, pairs_from_ascending, all_permutation, chosen, apart_moved, one_moved}
use Rattle.store_rows.proofs.OrderLemmas.{rises_from, rises_up, sorted_strict}
use Rattle.store_rows.proofs.ReceiptReadLemmas.{Differ}

-- ---- checks

-- where no rows as they are wanted are refused but when out of memory
pub refused : (P : Type 0) (e : RowFault) → (P → e ≡ NoMemory) → Checks {X = Unit {0}} P (Err e)
refused P BadRow memory = λ p. let bad = memory p in cc
refused P NoMemory memory = tt

-- ---- receipts

-- both are tied where the whole is
both_tied : (a b : Ordering) → ordering_then a b ≡ Equal → (a ≡ Equal) × (b ≡ Equal)
both_tied Less b e = absurd cc
both_tied Equal b e = (refl, e)
both_tied Greater b e = absurd cc

-- two keys differ
abbrev pub KeysDiffer : ReceiptKey → ReceiptKey → Type 0
KeysDiffer a b = ¬ ((a.caller ≡ b.caller) × (a.id ≡ b.id))

pub not_tied : (a b : ReceiptKey) → KeysDiffer a b → receipt_key_order a b ≡ Equal → ⊥
not_tied a b differ tie =
    let both = both_tied (slice_cmp nat_cmp a.caller b.caller) (slice_cmp nat_cmp a.id b.id) tie in
    differ (octets_exact a.caller b.caller both.0, octets_exact a.id b.id both.1)

pub differ_from : (a b : ReceiptKey) → receipt_key_order a b ≡ Less → KeysDiffer a b
differ_from a b less same =
    let callers : slice_cmp nat_cmp a.caller b.caller ≡ Equal = ap (λ x. slice_cmp nat_cmp x b.caller) same.0 ∙ tied_itself nat_list_cmp_total b.caller in
    let ids : slice_cmp nat_cmp a.id b.id ≡ Equal = ap (λ x. slice_cmp nat_cmp x b.id) same.1 ∙ tied_itself nat_list_cmp_total b.id in
    let tie : receipt_key_order a b ≡ Equal = ap (λ x. ordering_then x (slice_cmp nat_cmp a.id b.id)) callers ∙ ids in
    let bad : Less ≡ Equal = sym less ∙ tie in
    cc

-- keys of the one order differ where those of the other do
keys_moved : (ks ls : List ReceiptKey) → IsPermutation ks ls → IsAscending KeysDiffer ks → IsAscending KeysDiffer ls
keys_moved = apart_moved KeysDiffer (λ a b differ s. differ (sym s.0, sym s.1))

-- a row of a receipt that was read
pub row_is : (row : ReceiptRowOf) (caller id : List ℕ) (receipt : Receipt) → IsRowOfReceipt caller id receipt row → IsReceiptAt (receipt_under caller id receipt) → IsReceiptRow row
row_is row caller id receipt (wording, e) is =
    (record { caller = caller; id = id; receipt = receipt; wording = wording }, record { caller = is.caller; id = is.id; receipt = is.receipt }, e)

-- the key of a receipt
abbrev pub key_at : ReceiptAt → ReceiptKey
key_at r = row_key (row_of_receipt r)

module _ (rows : List ReceiptRowOf) where
  pub receipt_rows : AreReceiptRows rows → AllByRecursion IsReceiptRow rows
  receipt_rows are =
      all_permutation IsReceiptRow (map row_of_receipt are.receipts) rows are.same
      (all_map IsReceiptRow row_of_receipt are.receipts (all_weaker IsReceiptAt (λ r. IsReceiptRow (row_of_receipt r)) (λ r is. (r, is, refl)) are.receipts are.each))

  module _ (ks : List ReceiptKey) (same : IsPermutation (map row_key rows) ks) where
    pub receipts_rise : AreReceiptRows rows → IsSorted receipt_key_order ks → rises receipt_key_order ks ≡ true
    receipts_rise are sorted =
        let keys = subst (λ l. IsPermutation l (map row_key rows)) (map-map row_key row_of_receipt are.receipts) (IsPermutation-map row_key (map row_of_receipt are.receipts) rows are.same) in
        let moved = IsPermutation-trans (map key_at are.receipts) (map row_key rows) ks keys same in
        let apart = keys_moved (map key_at are.receipts) ks moved (ascending-map KeysDiffer key_at are.receipts (ascending_from_pairs Differ are.receipts are.apart)) in
        let untied = ascending_weaker KeysDiffer (λ a b. ¬ (receipt_key_order a b ≡ Equal)) not_tied ks apart in
        rises_from receipt_key_order ks (sorted_strict receipt_key_order receipt_key_total ks sorted untied)

    pub are_receipt_rows : AllByRecursion IsReceiptRow rows → rises receipt_key_order ks ≡ true → AreReceiptRows rows
    are_receipt_rows each rise =
        let all = chosen IsReceiptAt row_of_receipt rows each in
        let keys : map row_key rows ≡ map key_at all.0 = ap (map row_key) all.1 ∙ map-map row_key row_of_receipt all.0 in
        let back = subst (IsPermutation ks) keys (IsPermutation-sym (map row_key rows) ks same) in
        let apart = keys_moved ks (map key_at all.0) back (ascending_weaker (λ a b. receipt_key_order a b ≡ Less) KeysDiffer differ_from ks (rises_up receipt_key_order receipt_key_total ks rise)) in
        record {
          receipts = all.0;
          apart = pairs_from_ascending Differ all.0 (ascending_from_map KeysDiffer key_at all.0 apart);
          each = all.2;
          same = IsPermutation-same (map row_of_receipt all.0) rows (sym all.1);
        }

-- receipts whose rows do not have one key differ
differ_by_key : (a b : ReceiptAt) → same_receipt_key (row_of_receipt a) (row_of_receipt b) ≡ false → Differ a b
differ_by_key a b other same =
    let tie : same_receipt_key (row_of_receipt a) (row_of_receipt b) ≡ true = and_from _ _ ((bytes_eq-Decides a.caller b.caller).1 same.0) ((bytes_eq-Decides a.id b.id).1 same.1) in
    let bad : true ≡ false = sym tie ∙ other in
    cc

all_differ : (rs : List ReceiptAt) → IsDistinct same_receipt_key (map row_of_receipt rs) → IsAscending Differ rs
all_differ [] own = tt
all_differ (r ∷ rs) own =
    let rows = map row_of_receipt rs in
    let first = all_from_map (λ row. same_receipt_key (row_of_receipt r) row ≡ false) row_of_receipt rs (IsDistinct-head same_receipt_key (row_of_receipt r) rows own) in
    (all_weaker (λ b. same_receipt_key (row_of_receipt r) (row_of_receipt b) ≡ false) (Differ r) (differ_by_key r) rs first, all_differ rs (IsDistinct-tail same_receipt_key (row_of_receipt r) rows own))

-- rows of receipts without two of one key
pub with_own_keys : (rows : List ReceiptRowOf) → AllByRecursion IsReceiptRow rows → IsDistinct same_receipt_key rows → AreReceiptRows rows
with_own_keys rows each own =
    let all = chosen IsReceiptAt row_of_receipt rows each in
    record {
      receipts = all.0;
      apart = pairs_from_ascending Differ all.0 (all_differ all.0 (subst (IsDistinct same_receipt_key) all.1 own));
      each = all.2;
      same = IsPermutation-same (map row_of_receipt all.0) rows (sym all.1);
    }

-- ---- all rows

pub state_of_rows : (version : ℤ) (rows : RowsOf) → AreStateRows version rows → (s : State) × AreOfState version rows s
state_of_rows version rows are =
    let content : ContentOf = record { zones = are.zones.zones; receipts = are.receipts.receipts } in
    let s : State = record { zones = λ origin. option_map held_of (zone_among content.zones origin); receipts = λ caller id. option_map (λ r. r.receipt) (receipt_among content.receipts caller id) } in (
      s,
      record {
        content = content;
        is_content = record { zones_apart = are.zones.apart; zones = are.zones.each; receipts_apart = are.receipts.apart; receipts = are.receipts.each };
        means = record { zones = λ origin. refl; receipts = λ caller id. refl };
        same = record {
          versions = IsPermutation-same (version ∷ []) rows.versions (sym are.versions);
          zones = are.zones.same_origins;
          records = are.zones.same_records;
          receipts = are.receipts.same;
          changes = are.zones.same_changes;
        };
      },
    )

pub rows_of_state : (version : ℤ) (rows : RowsOf) (s : State) → AreOfState version rows s → AreStateRows version rows
rows_of_state version rows s st = record {
  versions = one_moved version rows.versions st.same.versions;
  zones = record {
    zones = st.content.zones;
    apart = st.is_content.zones_apart;
    each = st.is_content.zones;
    same_origins = st.same.zones;
    same_records = st.same.records;
    same_changes = st.same.changes;
  };
  receipts = record { receipts = st.content.receipts; apart = st.is_content.receipts_apart; each = st.is_content.receipts; same = st.same.receipts };
}

pub states_are_by_table : StatesAreByTable
states_are_by_table version rows = (state_of_rows version rows, λ s. rows_of_state version rows s.0 s.1)

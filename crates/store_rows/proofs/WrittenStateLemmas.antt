-- Rows that are a state, once something was written.
use Rattle.std.proofs.Common.{◌≡◌, ◌≢◌, ℕ, List, [], ◌∷◌, ◌++◌, map, not, flat_map, None, option_map, AllPairs, IsPermutation, sym, ap, subst, ◌∙◌, append-nil}
use Rattle.std.specs.List.{AllByRecursion, list_any}
use Rattle.std.proofs.lemmas.List.Sorted.{IsPermutation-sym, IsPermutation-trans, IsPermutation-append_left, IsPermutation-to_front}
use Rattle.sqlite_trees.proofs.ListLemmas.{IsPermutation-same, IsPermutation-filter}
use Rattle.dns_names.specs.Spelling.{name_text}
use Rattle.office_model.specs.States.{State, keep}
use Rattle.store_sql.specs.Rows.{BatchOf, ReceiptRowOf, same_key, without, versions_with}
use Rattle.store_rows.specs.Contents.{ZoneRows, ReceiptAt, zone_records, zone_changes, row_of_receipt, held_of, zone_among, receipt_among, IsZoneRows, IsReceiptAt}
use Rattle.store_rows.specs.Batches.{Leads, receipts_batch}
use Rattle.store_rows.proofs.RecordLemmas.{without_none}
use Rattle.store_rows.proofs.ContentReceiptLemmas.{pairs_more, means_more}

abbrev Labels : Type 0
Labels = List (List ℕ)

-- ---- the parts of a content

-- zones are those of a state
pub record ZonesAre (zs : List ZoneRows) (s : State) : Type 0 where
  pub apart : AllPairs (λ y z. y.origin ≢ z.origin) zs
  pub each : AllByRecursion IsZoneRows zs
  pub means : (o : Labels) → s.zones o ≡ option_map held_of (zone_among zs o)

-- receipts are those of a state
pub record ReceiptsAre (receipts : List ReceiptAt) (s : State) : Type 0 where
  pub apart : AllPairs (λ a b. ¬ ((a.caller ≡ b.caller) × (a.id ≡ b.id))) receipts
  pub each : AllByRecursion IsReceiptAt receipts
  pub means : (caller id : List ℕ) → s.receipts caller id ≡ option_map (λ r. r.receipt) (receipt_among receipts caller id)

abbrev pub zone_row : ZoneRows → List ℕ
zone_row z = name_text z.origin

-- what is written turns the rows of zones into those of another state's
pub record ZonesBecome (w : BatchOf) (zs : List ZoneRows) (t : State) : Type 0 where
  pub after : List ZoneRows
  pub are : ZonesAre after t
  pub zone_rows : IsPermutation (map zone_row after) (map zone_row zs ++ w.zones)
  pub record_rows : IsPermutation (flat_map zone_records after) (without w.removed (flat_map zone_records zs) ++ w.added)
  pub changes : IsPermutation (flat_map zone_changes after) (flat_map zone_changes zs ++ w.changes)

-- another state with the same zones
pub zones_same : (w : BatchOf) (zs : List ZoneRows) (t u : State) → u.zones ≡ t.zones → ZonesBecome w zs t → ZonesBecome w zs u
zones_same w zs t u same become = record {
  after = become.after;
  are = record { apart = become.are.apart; each = become.are.each; means = λ o. ap (λ f. f o) same ∙ become.are.means o };
  zone_rows = become.zone_rows;
  record_rows = become.record_rows;
  changes = become.changes;
}

-- what is written turns the rows of receipts into those of another state's
pub record ReceiptsBecome (w : BatchOf) (receipts : List ReceiptAt) (t : State) : Type 0 where
  pub after : List ReceiptAt
  pub are : ReceiptsAre after t
  pub receipt_rows : IsPermutation (map row_of_receipt after) (map row_of_receipt receipts ++ w.receipts)

-- then it leads from the one state to the other
pub leads : (w : BatchOf) (s t : State) → w.version ≡ None → ((zs : List ZoneRows) → ZonesAre zs s → ZonesBecome w zs t)
    → ((receipts : List ReceiptAt) → ReceiptsAre receipts s → ReceiptsBecome w receipts t) → Leads w s t
leads w s t none zones receipts version rows are =
    let z = zones are.content.zones (record { apart = are.is_content.zones_apart; each = are.is_content.zones; means = are.means.zones }) in
    let r = receipts are.content.receipts (record { apart = are.is_content.receipts_apart; each = are.is_content.receipts; means = are.means.receipts }) in
    record {
      content = record { zones = z.after; receipts = r.after };
      is_content = record { zones_apart = z.are.apart; zones = z.are.each; receipts_apart = r.are.apart; receipts = r.are.each };
      means = record { zones = z.are.means; receipts = r.are.means };
      same = record {
        versions = subst (λ v. IsPermutation (version ∷ []) (versions_with v rows.versions)) (sym none) are.same.versions;
        zones = IsPermutation-trans _ _ _ z.zone_rows (IsPermutation-append_left w.zones _ _ are.same.zones);
        records = IsPermutation-trans _ _ _ z.record_rows (IsPermutation-append_left w.added _ _ (IsPermutation-filter (λ r. not (list_any (λ g. same_key g r) w.removed)) _ _ are.same.records));
        receipts = IsPermutation-trans _ _ _ r.receipt_rows (IsPermutation-append_left w.receipts _ _ are.same.receipts);
        changes = IsPermutation-trans _ _ _ z.changes (IsPermutation-append_left w.changes _ _ are.same.changes);
      };
    }

-- ---- nothing is written

pub unchanged : {X : Type 0} (xs : List X) → IsPermutation xs (xs ++ [])
unchanged xs = IsPermutation-same xs (xs ++ []) (sym (append-nil xs))

-- zones as they were, with receipts beside them
pub zones_stay : (rows : List ReceiptRowOf) (s t : State) → t.zones ≡ s.zones → (zs : List ZoneRows) → ZonesAre zs s → ZonesBecome (receipts_batch rows) zs t
zones_stay rows s t same zs are = record {
  after = zs;
  are = record { apart = are.apart; each = are.each; means = λ o. ap (λ f. f o) same ∙ are.means o };
  zone_rows = unchanged (map zone_row zs);
  record_rows = subst (λ rs. IsPermutation (flat_map zone_records zs) (rs ++ [])) (sym (without_none (flat_map zone_records zs))) (unchanged (flat_map zone_records zs));
  changes = unchanged (flat_map zone_changes zs);
}

-- receipts as they were
pub receipts_stay : (w : BatchOf) (s t : State) → w.receipts ≡ [] → t.receipts ≡ s.receipts → (receipts : List ReceiptAt) → ReceiptsAre receipts s → ReceiptsBecome w receipts t
receipts_stay w s t none same receipts are = record {
  after = receipts;
  are = record { apart = are.apart; each = are.each; means = λ caller id. ap (λ f. f caller id) same ∙ are.means caller id };
  receipt_rows = subst (λ rows. IsPermutation (map row_of_receipt receipts) (map row_of_receipt receipts ++ rows)) (sym none) (unchanged (map row_of_receipt receipts));
}

-- ---- one receipt more

pub receipt_more : (w : BatchOf) (s t : State) (r : ReceiptAt) → w.receipts ≡ row_of_receipt r ∷ [] → t.receipts ≡ (keep s r.caller r.id r.receipt).receipts → IsReceiptAt r → s.receipts r.caller r.id ≡ None
    → (receipts : List ReceiptAt) → ReceiptsAre receipts s → ReceiptsBecome w receipts t
receipt_more w s t r one same is fresh receipts are = record {
  after = r ∷ receipts;
  are = record {
    apart = pairs_more receipts r (sym fresh ∙ are.means r.caller r.id) are.apart;
    each = (is, are.each);
    means = λ caller id. ap (λ f. f caller id) same ∙ means_more s receipts r are.means caller id;
  };
  receipt_rows =
      subst (λ rows. IsPermutation (map row_of_receipt (r ∷ receipts)) (map row_of_receipt receipts ++ rows)) (sym one)
      (IsPermutation-sym (map row_of_receipt receipts ++ row_of_receipt r ∷ []) (map row_of_receipt (r ∷ receipts)) (IsPermutation-to_front (map row_of_receipt receipts) (row_of_receipt r)));
}

-- A state without a zone, and the rows of a content without one.
use Rattle.std.proofs.Common.{◌≡◌, ◌≢◌, ℕ, Bool, true, false, cond, not, List, [], ◌∷◌, ◌++◌, map, filter, flat_map, Option, Some, None, option_map, IsPermutation, bytes_eq, refl, sym, ap, ap₂, subst, ◌∙◌}
use Rattle.std.specs.List.{AllByRecursion}
use Rattle.std.proofs.lemmas.Bool.{both_ways}
use Rattle.std.proofs.lemmas.List.Elements.{filter-append}
use Rattle.sqlite_trees.proofs.ListLemmas.{all-filter, all_weaker, ascending-filter, filter_all, IsPermutation-filter}
use Rattle.sqlite_keyed.proofs.ListLemmas.{filter_none}
use Rattle.dns_names.specs.Labels.{IsName}
use Rattle.dns_names.specs.Order.{same_name}
use Rattle.dns_names.specs.Spelling.{name_text}
use Rattle.zone_core.proofs.SetLemmas.{by_cases, name_is, name_self, name_other}
use Rattle.office_model.specs.States.{Held, State}
use Rattle.store_sql.specs.Rows.{RecordRowOf, ChangeRowOf}
use Rattle.store_rows.specs.Contents.{ZoneRows, zone_among, zone_records, zone_changes, held_of, IsZoneRows}
use Rattle.store_rows.specs.Removals.{without_zone, IsWithout, ZonesGo, GoneRowsAreGoneZones}
use Rattle.store_rows.proofs.ContentLemmas.{Apart, records_here, records_elsewhere, changes_here, changes_elsewhere}
use Rattle.store_rows.proofs.ContentZoneLemmas.{others, found_others}
use Rattle.store_rows.proofs.ListLemmas.{ascending_from_pairs, pairs_from_ascending}
use Rattle.store_rows.proofs.NameLemmas.{bytes_same, text_other}
use Rattle.store_rows.proofs.WrittenStateLemmas.{zone_row}

abbrev Labels : Type 0
Labels = List (List ℕ)

-- ---- the state without a zone

abbrev held_at : Option Held → Option Held → Bool → Option Held
held_at there here b = cond b here there

without_found : (s : State) (o : Labels) → IsWithout s o (without_zone s o)
without_found s o = record {
  gone = ap (held_at (s.zones o) None) (name_self o);
  others = λ p other. ap (held_at (s.zones p) None) (name_other p o other);
  receipts = refl;
}

without_only : (s t : State) (o : Labels) → IsWithout s o t → t ≡ without_zone s o
without_only s t o is = λ i. record { zones = λ p. zone_at p i; receipts = is.receipts i }
  where
    zone_at : (p : Labels) → t.zones p ≡ (without_zone s o).zones p
    zone_at p =
        by_cases (same_name p o) (t.zones p ≡ (without_zone s o).zones p)
        (λ e. subst (λ q. t.zones q ≡ None) (sym (name_is p o e)) is.gone ∙ sym (ap (held_at (s.zones p) None) e))
        (λ e. is.others p (λ same. both_ways (same_name p o) e (ap (λ (q : Labels). same_name q o) same ∙ name_self o)) ∙ sym (ap (held_at (s.zones p) None) e))

without_same : (s : State) (o : Labels) → s.zones o ≡ None → without_zone s o ≡ s
without_same s o none = sym (without_only s s o (record { gone = none; others = λ p other. refl; receipts = refl }))

pub zones_go : ZonesGo
zones_go = record { found = without_found; only = without_only; same = without_same }

-- ---- the others of a content

-- the zone is not found among the others
not_among : (o : Labels) (zs : List ZoneRows) → zone_among (others o zs) o ≡ None
not_among o [] = refl
not_among o (z ∷ zs) = by_test (same_name z.origin o) refl (not_among o zs)
  where
    by_test : (b : Bool) → same_name z.origin o ≡ b → zone_among (others o zs) o ≡ None → zone_among (cond (not b) (z ∷ others o zs) (others o zs)) o ≡ None
    by_test true t later = later
    by_test false t later = ap (λ b. cond b (Some z) (zone_among (others o zs) o)) t ∙ later

means_without : (s : State) (o : Labels) (zs : List ZoneRows) → ((p : Labels) → s.zones p ≡ option_map held_of (zone_among zs p)) → (p : Labels)
    → (without_zone s o).zones p ≡ option_map held_of (zone_among (others o zs) p)
means_without s o zs means p =
    by_cases (same_name p o) ((without_zone s o).zones p ≡ option_map held_of (zone_among (others o zs) p))
    (λ t. ap (held_at (s.zones p) None) t ∙ ap (option_map held_of) (sym (subst (λ q. zone_among (others o zs) q ≡ None) (sym (name_is p o t)) (not_among o zs))))
    (λ f. ap (held_at (s.zones p) None) f ∙ means p ∙ ap (option_map held_of) (sym (found_others o p zs f)))

-- rows that do not pass a test on the origin are those of the others
module _ {R : Type 0} (p : R → Bool) (rows : ZoneRows → List R) (o : Labels)
    (yes : (z : ZoneRows) → z.origin ≡ o → AllByRecursion (λ r. p r ≡ true) (rows z))
    (no : (z : ZoneRows) → IsName z.origin → z.origin ≢ o → AllByRecursion (λ r. p r ≡ false) (rows z)) where
  rows_of_others : (zs : List ZoneRows) → AllByRecursion IsZoneRows zs → filter (λ r. not (p r)) (flat_map rows zs) ≡ flat_map rows (others o zs)
  rows_of_others [] are = refl
  rows_of_others (z ∷ zs) are =
      filter-append (λ r. not (p r)) (rows z) (flat_map rows zs)
      ∙ by_cases (same_name z.origin o) (filter (λ r. not (p r)) (rows z) ++ filter (λ r. not (p r)) (flat_map rows zs) ≡ flat_map rows (others o (z ∷ zs)))
      (λ t.
      ap₂ ◌++◌ (filter_none (λ r. not (p r)) (rows z) (all_weaker (λ r. p r ≡ true) (λ r. not (p r) ≡ false) (λ r e. ap not e) (rows z) (yes z (name_is z.origin o t)))) (rows_of_others zs are.1)
      ∙ sym (ap (λ b. flat_map rows (cond (not b) (z ∷ others o zs) (others o zs))) t))
      (λ f.
      let other : z.origin ≢ o = λ same. both_ways (same_name z.origin o) f (ap (λ (q : Labels). same_name q o) same ∙ name_self o) in
      ap₂ ◌++◌ (filter_all (λ r. not (p r)) (rows z) (all_weaker (λ r. p r ≡ false) (λ r. not (p r) ≡ true) (λ r e. ap not e) (rows z) (no z are.0.origin other))) (rows_of_others zs are.1)
      ∙ sym (ap (λ b. flat_map rows (cond (not b) (z ∷ others o zs) (others o zs))) f))

-- and so of their origins
origins_of_others : (o : Labels) → IsName o → (zs : List ZoneRows) → AllByRecursion IsZoneRows zs → filter (λ t. not (bytes_eq t (name_text o))) (map zone_row zs) ≡ map zone_row (others o zs)
origins_of_others o named [] are = refl
origins_of_others o named (z ∷ zs) are =
    let later = origins_of_others o named zs are.1 in
    let with = λ (b : Bool). cond (not b) (zone_row z ∷ filter (λ t. not (bytes_eq t (name_text o))) (map zone_row zs)) (filter (λ t. not (bytes_eq t (name_text o))) (map zone_row zs)) in
    let among = λ (b : Bool). map zone_row (cond (not b) (z ∷ others o zs) (others o zs)) in
    by_cases (same_name z.origin o) (with (bytes_eq (zone_row z) (name_text o)) ≡ among (same_name z.origin o))
    (λ t. ap with (bytes_same (zone_row z) (name_text o) (ap name_text (name_is z.origin o t))) ∙ later ∙ sym (ap among t))
    (λ f.
    let other : z.origin ≢ o = λ same. both_ways (same_name z.origin o) f (ap (λ (q : Labels). same_name q o) same ∙ name_self o) in
    ap with (text_other z.origin o are.0.origin named other) ∙ ap (λ l. zone_row z ∷ l) later ∙ sym (ap among f))

pub gone_rows_are_gone_zones : GoneRowsAreGoneZones
gone_rows_are_gone_zones version rows s o st named =
    let zs = st.content.zones in
    let each = st.is_content.zones in
    let of_zone = λ (t : List ℕ). not (bytes_eq t (name_text o)) in
    let of_record = λ (r : RecordRowOf). bytes_eq r.origin (name_text o) in
    let of_change = λ (r : ChangeRowOf). bytes_eq r.origin (name_text o) in
    record {
      content = record { zones = others o zs; receipts = st.content.receipts };
      is_content = record {
        zones_apart = pairs_from_ascending Apart (others o zs) (ascending-filter Apart (λ z. not (same_name z.origin o)) zs (ascending_from_pairs Apart zs st.is_content.zones_apart));
        zones = all-filter IsZoneRows (λ z. not (same_name z.origin o)) zs each;
        receipts_apart = st.is_content.receipts_apart;
        receipts = st.is_content.receipts;
      };
      means = record { zones = means_without s o zs st.means.zones; receipts = st.means.receipts };
      same = record {
        versions = st.same.versions;
        zones = subst (λ l. IsPermutation l (filter of_zone rows.zones)) (origins_of_others o named zs each) (IsPermutation-filter of_zone (map zone_row zs) rows.zones st.same.zones);
        records =
            subst (λ l. IsPermutation l (filter (λ r. not (of_record r)) rows.records))
            (rows_of_others of_record zone_records o (λ z h. records_here z o h) (λ z is apart. records_elsewhere z o named is apart) zs each)
            (IsPermutation-filter (λ r. not (of_record r)) (flat_map zone_records zs) rows.records st.same.records);
        receipts = st.same.receipts;
        changes =
            subst (λ l. IsPermutation l (filter (λ r. not (of_change r)) rows.changes))
            (rows_of_others of_change zone_changes o (λ z h. changes_here z o h) (λ z is apart. changes_elsewhere z o named is apart) zs each)
            (IsPermutation-filter (λ r. not (of_change r)) (flat_map zone_changes zs) rows.changes st.same.changes);
      };
    }

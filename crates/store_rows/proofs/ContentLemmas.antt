-- The rows of one zone, and of one caller and identifier, among those of a state.
use Rattle.std.proofs.Common.{◌≡◌, ◌≢◌, ℕ, ℤ, suc, Bool, true, false, List, [], ◌∷◌, ◌++◌, map, filter, Option, Some, None, IsPermutation, refl, sym, ap, ap₂, subst, ◌∙◌, ◌&&◌}
use Rattle.std.proofs.lemmas.List.{append-nil}
use Rattle.std.proofs.lemmas.List.Elements.{filter-append}
use Rattle.std.specs.Prelude.{option_map, bytes_eq}
use Rattle.std.specs.List.{AllByRecursion, flat_map}
use Rattle.sqlite_trees.specs.Tree.{IsAscending}
use Rattle.sqlite_keyed.proofs.ListLemmas.{all_of, all_weaker, all_map, all-append, filter_all, filter_none, IsPermutation-filter}
use Rattle.dns_names.specs.Labels.{IsName}
use Rattle.dns_names.specs.Order.{same_name}
use Rattle.dns_names.specs.Spelling.{name_text}
use Rattle.dns_data.specs.declared.record.Record.{Record}
use Rattle.zone_core.proofs.SetLemmas.{by_cases, name_is, name_self}
use Rattle.zone_core.specs.Zones.{ZoneOf}
use Rattle.zone_core.specs.Views.{zone_in}
use Rattle.zone_core.specs.Changes.{ChangeOf}
use Rattle.office_model.specs.States.{Held, State, zone_held, zone_at}
use Rattle.store_sql.specs.Rows.{RecordRowOf, ChangeRowOf, RowsOf}
use Rattle.store_sql.specs.Lookups.{records_of, changes_of}
use Rattle.store_rows.specs.declared.side.Side.{Side}
use Rattle.store_rows.specs.declared.side.Side.TheVariants.{Removed, Added}
use Rattle.store_rows.specs.RecordRows.{record_row}
use Rattle.store_rows.specs.ChangeRows.{change_row, change_rows, changes_rows}
use Rattle.store_rows.specs.Contents.{ZoneRows, zone_records, zone_changes, held_of, zone_among, IsZoneRows, AreOfState}
use Rattle.store_rows.proofs.ListLemmas.{ascending_from_pairs, filter-and, found_passes, found_has}
use Rattle.store_rows.proofs.NameLemmas.{bytes_same, text_other}

abbrev Labels : Type 0
Labels = List (List ℕ)

-- two zones are of different origins
abbrev pub Apart : ZoneRows → ZoneRows → Type 0
Apart a b = a.origin ≢ b.origin

-- the first zone of an origin
pub among_origin : (zones : List ZoneRows) (o : Labels) (z : ZoneRows) → zone_among zones o ≡ Some z → z.origin ≡ o
among_origin zones o z e = name_is z.origin o (found_passes (λ z. same_name z.origin o) zones z e)

pub among_is : (zones : List ZoneRows) (o : Labels) (z : ZoneRows) → AllByRecursion IsZoneRows zones → zone_among zones o ≡ Some z → IsZoneRows z
among_is zones o z are e = found_has (λ z. same_name z.origin o) IsZoneRows zones z are e

-- ---- rows that pass a test on the origin are those of the one zone

module _ {R : Type 0} (p : R → Bool) (rows : ZoneRows → List R) (o : Labels)
    (yes : (z : ZoneRows) → z.origin ≡ o → AllByRecursion (λ r. p r ≡ true) (rows z))
    (no : (z : ZoneRows) → IsName z.origin → z.origin ≢ o → AllByRecursion (λ r. p r ≡ false) (rows z)) where
  pub none_of : (zs : List ZoneRows) → AllByRecursion IsZoneRows zs → AllByRecursion (λ z. z.origin ≢ o) zs → filter p (flat_map rows zs) ≡ []
  none_of [] are apart = refl
  none_of (z ∷ zs) are apart =
      filter-append p (rows z) (flat_map rows zs) ∙ ap₂ ◌++◌ (filter_none p (rows z) (no z are.0.origin apart.0)) (none_of zs are.1 apart.1)

  pub those_of : (zs : List ZoneRows) → AllByRecursion IsZoneRows zs → IsAscending Apart zs → (z : ZoneRows) → zone_among zs o ≡ Some z → filter p (flat_map rows zs) ≡ rows z
  those_of [] are up z e = absurd cc
  those_of (x ∷ zs) are up z e =
      by_cases (same_name x.origin o) (filter p (flat_map rows (x ∷ zs)) ≡ rows z)
      (λ t.
      let first : Some x ≡ Some z = rw t at e in
      let is : x ≡ z = cc in
      let here = name_is x.origin o t in
      let others = all_weaker (Apart x) (λ y. y.origin ≢ o) (λ y apart same. apart (here ∙ sym same)) zs up.0 in
      filter-append p (rows x) (flat_map rows zs) ∙ ap₂ ◌++◌ (filter_all p (rows x) (yes x here)) (none_of zs are.1 others) ∙ append-nil (rows x) ∙ ap rows is)
      (λ f.
      let later : zone_among zs o ≡ Some z = rw f at e in
      let other : x.origin ≢ o = λ same. (let bad : true ≡ false = sym (name_self o) ∙ ap (λ n. same_name n o) (sym same) ∙ f in cc) in
      filter-append p (rows x) (flat_map rows zs) ∙ ap₂ ◌++◌ (filter_none p (rows x) (no x are.0.origin other)) (those_of zs are.1 up.1 z later))

-- ---- the rows of a zone have its origin

pub records_here : (z : ZoneRows) (o : Labels) → z.origin ≡ o → AllByRecursion (λ r. bytes_eq r.origin (name_text o) ≡ true) (zone_records z)
records_here z o is = all_map (λ r. bytes_eq r.origin (name_text o) ≡ true) (record_row z.origin) z.records (all_of (λ r. bytes_eq (name_text z.origin) (name_text o) ≡ true) (λ r. bytes_same (name_text z.origin) (name_text o) (ap name_text is)) z.records)

pub records_elsewhere : (z : ZoneRows) (o : Labels) → IsName o → IsName z.origin → z.origin ≢ o → AllByRecursion (λ r. bytes_eq r.origin (name_text o) ≡ false) (zone_records z)
records_elsewhere z o named is apart = all_map (λ r. bytes_eq r.origin (name_text o) ≡ false) (record_row z.origin) z.records (all_of (λ r. bytes_eq (name_text z.origin) (name_text o) ≡ false) (λ r. text_other z.origin o is named apart) z.records)

-- what holds of each row of a change of an origin
module _ (P : ChangeRowOf → Type 0) (o : Labels) (each : (n : ℕ) (side : Side) (r : Record) → P (change_row o n side r)) where
  side_each : (n : ℕ) (side : Side) (rs : List Record) → AllByRecursion P (map (change_row o n side) rs)
  side_each n side [] = tt
  side_each n side (r ∷ rs) = (each n side r, side_each n side rs)

  pub changes_each : (n : ℕ) (cs : List ChangeOf) → AllByRecursion P (changes_rows o n cs)
  changes_each n [] = tt
  changes_each n (c ∷ cs) =
      all-append P (change_rows o n c) (changes_rows o (suc n) cs)
      (all-append P (map (change_row o n Removed) c.removed) (map (change_row o n Added) c.added) (side_each n Removed c.removed) (side_each n Added c.added))
      (changes_each (suc n) cs)

pub changes_here : (z : ZoneRows) (o : Labels) → z.origin ≡ o → AllByRecursion (λ r. bytes_eq r.origin (name_text o) ≡ true) (zone_changes z)
changes_here z o is = changes_each (λ r. bytes_eq r.origin (name_text o) ≡ true) z.origin (λ n side r. bytes_same (name_text z.origin) (name_text o) (ap name_text is)) 1 z.changes

pub changes_elsewhere : (z : ZoneRows) (o : Labels) → IsName o → IsName z.origin → z.origin ≢ o → AllByRecursion (λ r. bytes_eq r.origin (name_text o) ≡ false) (zone_changes z)
changes_elsewhere z o named is apart = changes_each (λ r. bytes_eq r.origin (name_text o) ≡ false) z.origin (λ n side r. text_other z.origin o is named apart) 1 z.changes

-- ---- the zone of a state

-- a zone as the rows of a state have it
pub record IsHeld (version : ℤ) (all : RowsOf) (o : Labels) (z : ZoneRows) : Type 0 where
  pub origin : z.origin ≡ o
  pub is : IsZoneRows z
  pub records : IsPermutation (zone_records z) (records_of (name_text o) all.records)
  pub changes : IsPermutation (zone_changes z) (changes_of (name_text o) all.changes)

module _ (version : ℤ) (all : RowsOf) (s : State) (st : AreOfState version all s) where
  abbrev zones : List ZoneRows
  zones = st.content.zones

  pub is_held : (o : Labels) (z : ZoneRows) → zone_among zones o ≡ Some z → IsHeld version all o z
  is_held o z e =
      let origin = among_origin zones o z e in
      let is = among_is zones o z st.is_content.zones e in
      let named : IsName o = subst IsName origin is.origin in
      let up = ascending_from_pairs Apart zones st.is_content.zones_apart in
      let by_record = λ (r : RecordRowOf). bytes_eq r.origin (name_text o) in
      let by_change = λ (r : ChangeRowOf). bytes_eq r.origin (name_text o) in
      record {
        origin = origin;
        is = is;
        records =
            subst (λ l. IsPermutation l (records_of (name_text o) all.records))
            (those_of by_record zone_records o (λ z h. records_here z o h) (λ z is apart. records_elsewhere z o named is apart) zones st.is_content.zones up z e)
            (IsPermutation-filter by_record (flat_map zone_records zones) all.records st.same.records);
        changes =
            subst (λ l. IsPermutation l (changes_of (name_text o) all.changes))
            (those_of by_change zone_changes o (λ z h. changes_here z o h) (λ z is apart. changes_elsewhere z o named is apart) zones st.is_content.zones up z e)
            (IsPermutation-filter by_change (flat_map zone_changes zones) all.changes st.same.changes);
      }

  pub held_zone : (o : Labels) (held : Held) → s.zones o ≡ Some held → (z : ZoneRows) × (zone_among zones o ≡ Some z) × (held ≡ held_of z)
  held_zone o held e = go (zone_among zones o) refl (sym (st.means.zones o) ∙ e) where
    go : (found : Option ZoneRows) → zone_among zones o ≡ found → option_map held_of found ≡ Some held → (z : ZoneRows) × (zone_among zones o ≡ Some z) × (held ≡ held_of z)
    go None is none = absurd cc
    go (Some z) is some = (z, is, cc)

  pub zone_there : (o : Labels) (zone : ZoneOf) → zone_at s o ≡ Some zone → (z : ZoneRows) × (zone_among zones o ≡ Some z) × (zone ≡ zone_in o z.records)
  zone_there o zone e = go (zone_among zones o) refl (ap (option_map (zone_held o)) (sym (st.means.zones o)) ∙ e) where
    go : (found : Option ZoneRows) → zone_among zones o ≡ found → option_map (zone_held o) (option_map held_of found) ≡ Some zone → (z : ZoneRows) × (zone_among zones o ≡ Some z) × (zone ≡ zone_in o z.records)
    go None is none = absurd cc
    go (Some z) is some = (z, is, cc)

-- those of a zone's rows that pass another test too
pub part_held : (all : List RecordRowOf) (o : Labels) (rows : List RecordRowOf) (t : RecordRowOf → Bool) → IsPermutation rows (records_of (name_text o) all)
    → IsPermutation (filter t rows) (filter (λ r. bytes_eq r.origin (name_text o) && t r) all)
part_held all o rows t same =
    subst (IsPermutation (filter t rows)) (sym (filter-and (λ r. bytes_eq r.origin (name_text o)) t all)) (IsPermutation-filter t rows (records_of (name_text o) all) same)

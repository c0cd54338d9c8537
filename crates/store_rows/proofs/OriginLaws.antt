-- A zone has records at its origin, and where no record stands there is no zone.
use Rattle.std.proofs.Common.{◌≡◌, ◌≢◌, ℕ, Bool, true, false, List, [], ◌∷◌, filter, Option, Some, None, IsPermutation, refl, sym, ap, subst, ◌∙◌}
use Rattle.std.specs.Prelude.{option_map, bytes_eq}
use Rattle.std.specs.List.{AllByRecursion, flat_map}
use Rattle.sqlite_keyed.proofs.ListLemmas.{IsPermutation-filter}
use Rattle.sqlite_rules.specs.Lists.{Has}
use Rattle.sqlite_rules.proofs.ListLemmas.{has_kept}
use Rattle.dns_names.specs.Keys.{key_of}
use Rattle.dns_names.specs.Order.{same_name}
use Rattle.dns_names.specs.Spelling.{name_text}
use Rattle.zone_core.proofs.SetLemmas.{by_cases, name_self}
use Rattle.office_model.specs.States.{Held}
use Rattle.store_sql.specs.Rows.{RecordRowOf}
use Rattle.store_sql.specs.Lookups.{records_of, records_at}
use Rattle.store_rows.specs.RecordRows.{record_row}
use Rattle.store_rows.specs.Contents.{ZoneRows, zone_records, held_of, zone_among}
use Rattle.store_rows.specs.States.{ZonesStandAtOrigins}
use Rattle.store_rows.proofs.ContentLemmas.{none_of, records_here, records_elsewhere, is_held, held_zone}
use Rattle.store_rows.proofs.ListLemmas.{has_map, has_permutation, filter-and, none_moved}
use Rattle.store_rows.proofs.NameLemmas.{bytes_same}
use Rattle.store_rows.proofs.ZoneReadLemmas.{there}

abbrev Labels : Type 0
Labels = List (List ℕ)

abbrev of_origin : Labels → RecordRowOf → Bool
of_origin o r = bytes_eq r.origin (name_text o)

abbrev at_origin : Labels → RecordRowOf → Bool
at_origin o r = bytes_eq r.owner_key (key_of o)

-- zones among which an origin does not occur are of other origins
all_other : (zones : List ZoneRows) (o : Labels) → zone_among zones o ≡ None → AllByRecursion (λ z. z.origin ≢ o) zones
all_other [] o none = tt
all_other (z ∷ zs) o none =
    by_cases (same_name z.origin o) (AllByRecursion (λ z. z.origin ≢ o) (z ∷ zs))
    (λ t. absurd (let bad : Some z ≡ None = rw t at none in cc))
    (λ f. ((λ same. let bad : true ≡ false = sym (name_self o) ∙ ap (λ n. same_name n o) (sym same) ∙ f in cc), all_other zs o (rw f at none)))

not_held : (found : Option ZoneRows) → option_map held_of found ≡ None → found ≡ None
not_held None e = refl
not_held (Some z) e = absurd cc

pub zones_stand_at_origins : ZonesStandAtOrigins
zones_stand_at_origins version rows s o st named = (none_there, none_stands)
  where
    zones : List ZoneRows
    zones = st.content.zones

    at : records_at (name_text o) (key_of o) rows.records ≡ filter (at_origin o) (records_of (name_text o) rows.records)
    at = filter-and (of_origin o) (at_origin o) rows.records

    none_stands : s.zones o ≡ None → records_at (name_text o) (key_of o) rows.records ≡ []
    none_stands none =
        let others = all_other zones o (not_held (zone_among zones o) (sym (st.means.zones o) ∙ none)) in
        let empty = none_of (of_origin o) zone_records o (λ z h. records_here z o h) (λ z is apart. records_elsewhere z o named is apart) zones st.is_content.zones others in
        let moved = IsPermutation-filter (of_origin o) (flat_map zone_records zones) rows.records st.same.records in
        at ∙ ap (filter (at_origin o)) (none_moved (records_of (name_text o) rows.records) (subst (λ l. IsPermutation l (records_of (name_text o) rows.records)) empty moved))

    stands : (held : Held) → s.zones o ≡ Some held → (row : RecordRowOf) × Has (records_at (name_text o) (key_of o) rows.records) row
    stands held e =
        let z = held_zone version rows s st o held e in
        let h = is_held version rows s st o z.0 z.1 in
        let soa = h.is.zone.zone.soa in
        let row = record_row z.0.origin soa.0 in
        let among = has_permutation (zone_records z.0) (records_of (name_text o) rows.records) row h.records (has_map (record_row z.0.origin) z.0.records soa.0 (there z.0.records soa.0 soa.1.here)) in
        let passes : at_origin o row ≡ true = bytes_same (key_of soa.0.owner) (key_of o) (ap key_of (soa.1.origin ∙ h.origin)) in
        (row, subst (λ l. Has l row) (sym at) (has_kept (at_origin o) (records_of (name_text o) rows.records) row among passes))

    none_there : records_at (name_text o) (key_of o) rows.records ≡ [] → s.zones o ≡ None
    none_there empty = go (s.zones o) refl
      where
        go : (found : Option Held) → s.zones o ≡ found → found ≡ None
        go None e = refl
        go (Some held) e = absurd (let it = stands held e in subst (λ l. Has l it.0) empty it.1)

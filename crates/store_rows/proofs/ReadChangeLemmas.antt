-- Changes that were read, and those that a state has.
use Rattle.std.proofs.Common.{◌≡◌, ℕ, ℤ, Bool, List, [], ◌∷◌, map, filter, Option, None, Some, IfSome, IsPermutation, IsSorted, refl, sym, ap, ◌∙◌}
use Rattle.std.specs.Prelude.{bytes_eq}
use Rattle.std.specs.List.{AllByRecursion}
use Rattle.std.proofs.lemmas.List.Kept.{IsSortedBy-filter}
use Rattle.std.proofs.lemmas.List.Sorted.{IsPermutation-refl, IsPermutation-sym, IsPermutation-trans, ranks_by}
use Rattle.sqlite_trees.proofs.ListLemmas.{IsPermutation-filter, IsPermutation-same, all-filter}
use Rattle.dns_names.specs.Labels.{IsName}
use Rattle.dns_names.specs.Order.{same_name}
use Rattle.dns_names.specs.Spelling.{name_text}
use Rattle.zone_core.proofs.SetLemmas.{by_cases}
use Rattle.office_model.specs.States.{Held, State}
use Rattle.store_sql.specs.Rows.{ChangeRowOf, RowsOf}
use Rattle.store_sql.specs.Lookups.{changes_of}
use Rattle.store_rows.specs.declared.changes.ChangedRecord.{ChangedRecord}
use Rattle.store_rows.specs.ChangeRows.{changed_order, changed_order_total, gathered, row_of, IsChanged}
use Rattle.store_rows.specs.Contents.{AreOfState, zone_changes}
use Rattle.store_rows.specs.declared.zone_changes.ZoneChanges.{ZoneChanges}
use Rattle.store_rows.specs.ReadChanges.{Tells}
use Rattle.store_rows.proofs.ContentLemmas.{held_zone, is_held}
use Rattle.store_rows.proofs.GatheringLaws.{sorted_gathered}
use Rattle.store_rows.proofs.NameLemmas.{text_same}

module _ (o : List (List ℕ)) (named : IsName o) where
  abbrev is_own : ChangedRecord → Bool
  is_own c = same_name o c.origin

  -- the rows of the origin are those of what its changes have
  own_rows : (cs : List ChangedRecord) → AllByRecursion IsChanged cs → changes_of (name_text o) (map row_of cs) ≡ map row_of (filter is_own cs)
  own_rows [] all = refl
  own_rows (c ∷ cs) all =
      let later = own_rows cs all.1 in
      let told : bytes_eq (name_text c.origin) (name_text o) ≡ is_own c = text_same c.origin o all.0.origin named in
      by_cases (is_own c) (changes_of (name_text o) (map row_of (c ∷ cs)) ≡ map row_of (filter is_own (c ∷ cs)))
      (λ t. rw (told, t) (ap (λ (l : List ChangeRowOf). row_of c ∷ l) later))
      (λ f. rw (told, f) later)

  -- they are those of the zone in each state that has the rows
  pub told_changes : (read : List ChangedRecord) → AllByRecursion IsChanged read → IsSorted changed_order read → (version : ℤ) (all : RowsOf) (s : State) (held : Held)
      → AreOfState version all s → IsPermutation (map row_of read) all.changes → s.zones o ≡ Some held → gathered (filter is_own read) ≡ held.changes
  told_changes read each order version all s held st same e =
      let found = held_zone version all s st o held e in
      let z = found.0 in
      let h = is_held version all s st o z found.1 in
      let own = filter is_own read in
      let of_origin = λ (row : ChangeRowOf). bytes_eq row.origin (name_text o) in
      let rows = IsPermutation-trans (map row_of own) (changes_of (name_text o) (map row_of read)) (zone_changes z) (IsPermutation-same _ _ (sym (own_rows read each)))
      (IsPermutation-trans (changes_of (name_text o) (map row_of read)) (changes_of (name_text o) all.changes) (zone_changes z) (IsPermutation-filter of_origin (map row_of read) all.changes same) (IsPermutation-sym _ _ h.changes)) in
      let made = sorted_gathered z.origin z.changes (zone_changes z) h.is.origin h.is.changes (IsPermutation-refl (zone_changes z)) own rows (all-filter IsChanged is_own read each)
      (IsSortedBy-filter _ (ranks_by changed_order_total (λ (c : ChangedRecord). c)) is_own read order) in
      made ∙ ap (λ (x : Held). x.changes) (sym found.2)

-- the order of the rows tells nothing
pub tells_moved : (rows others : List ChangeRowOf) (found : Option ZoneChanges) → IsPermutation rows others → IfSome found (Tells rows) → IfSome found (Tells others)
tells_moved rows others None moved told = tt
tells_moved rows others (Some zone) moved told = λ version all s held st same e. told version all s held st (IsPermutation-trans rows others all.changes moved same) e

-- Zones that are taken one after the other: a step of the walk, and its end.
use Rattle.std.proofs.Common.{◌≡◌, ◌↔◌, ℕ, ◌+◌, ◌<◌, ◌≤◌, Bool, true, false, is_some, if◌then◌else◌, List, [], ◌∷◌, ◌++◌, length, filter, flat_map, take, drop, get_or, Some, None, refl, sym, ap, subst, ◌∙◌, arith, append_assoc, append-nil}
use Rattle.std.proofs.lemmas.List.{drop_more, drop_all}
use Rattle.std.specs.Prelude.{Option}
use Rattle.store_rows.specs.declared.changes.ChangedRecord.{ChangedRecord}
use Rattle.store_rows.specs.Contents.{ZoneRows}
use Rattle.store_rows.specs.declared.ordered.ZoneRecord.{ZoneRecord}
use Rattle.std.specs.List.{AllByRecursion}
use Rattle.zone_core.specs.Changes.{ChangeOf}
use Rattle.store_rows.specs.Checks.{records_first, changes_first, IsZoneRecord}
use Rattle.store_rows.proofs.ZoneCheckLemmas.{back_all}
use Rattle.office_store.specs.declared.migration_steps.MigrationSteps.{MigrationSteps}
use Rattle.office_store.specs.MigratedContents.{change_for, is_changed, zone_gone, zone_come, zone_made}
use Rattle.office_store.specs.MigrationSteps.{IsOldZoneOf, AreOldZonesInTurn, zone_rows_in, zones_in_turn, GoesOn, AreSteps}

abbrev Labels : Type 0
Labels = List (List ℕ)

-- what is written already, with what is written of the zones that are left, is what is written of all
pub record Left (steps : MigrationSteps) (left whole : List ZoneRows) : Type 0 where
  pub removed : steps.removed.items ++ flat_map zone_gone left ≡ flat_map zone_gone whole
  pub added : steps.added.items ++ flat_map zone_come left ≡ flat_map zone_come whole
  pub changes : steps.changes.items ++ flat_map zone_made left ≡ flat_map zone_made whole
  pub zones : steps.zones + length (filter is_changed left) ≡ length (filter is_changed whole)

pub left_all : (steps : MigrationSteps) (whole : List ZoneRows) → AreSteps steps [] → Left steps whole whole
left_all steps whole are = record {
  removed = ap (λ l. l ++ flat_map zone_gone whole) are.removed;
  added = ap (λ l. l ++ flat_map zone_come whole) are.added;
  changes = ap (λ l. l ++ flat_map zone_made whole) are.changes;
  zones = ap (λ n. n + length (filter is_changed whole)) are.zones ∙ zero_and (length (filter is_changed whole));
}
  where
    zero_and : (n : ℕ) → 0 + n ≡ n
    zero_and n = omega arith

pub left_none : (steps : MigrationSteps) (whole : List ZoneRows) → Left steps [] whole → AreSteps steps whole
left_none steps whole left = record {
  removed = sym (append-nil steps.removed.items) ∙ left.removed;
  added = sym (append-nil steps.added.items) ∙ left.added;
  changes = sym (append-nil steps.changes.items) ∙ left.changes;
  zones = and_zero steps.zones ∙ left.zones;
}
  where
    and_zero : (n : ℕ) → n ≡ n + 0
    and_zero n = omega arith

one_counted : (c : Option ChangeOf) (n m : ℕ) (z : ZoneRows) (zs : List ZoneRows) → (if is_some c then n + 1 else n) + length (filter is_changed zs) ≡ n + length (if is_some c then z ∷ filter is_changed zs else filter is_changed zs)
one_counted None n m z zs = refl
one_counted (Some c) n m z zs = omega arith

pub left_more : (old new : MigrationSteps) (z : ZoneRows) (left whole : List ZoneRows) → GoesOn old new z → Left old (z ∷ left) whole → Left new left whole
left_more old new z left whole goes l = record {
  removed = ap (λ x. x ++ flat_map zone_gone left) goes.removed ∙ append_assoc old.removed.items (zone_gone z) (flat_map zone_gone left) ∙ l.removed;
  added = ap (λ x. x ++ flat_map zone_come left) goes.added ∙ append_assoc old.added.items (zone_come z) (flat_map zone_come left) ∙ l.added;
  changes = ap (λ x. x ++ flat_map zone_made left) goes.changes ∙ append_assoc old.changes.items (zone_made z) (flat_map zone_made left) ∙ l.changes;
  zones = ap (λ n. n + length (filter is_changed left)) goes.zones ∙ one_counted (change_for z.origin z.records) old.zones 0 z left ∙ l.zones;
}

-- ---- the walk

module _ (origins : List Labels) (i : ℕ) (rs : List ZoneRecord) (cs : List ChangedRecord) (o : Labels) (below : i < length origins) (is : o ≡ get_or origins i o)
    (n m : ℕ) (n_is : n ≡ records_first o rs) (m_is : m ≡ changes_first o cs) where
  abbrev Next : Type 0
  Next = IsOldZoneOf o (take n rs) (take m cs) × AreOldZonesInTurn (drop (i + 1) origins) (drop n rs) (drop m cs)

  opened : drop i origins ≡ o ∷ drop (i + 1) origins
  opened = drop_more origins i o below ∙ ap (λ p. p ∷ drop (i + 1) origins) (sym is)

  pub from_next : Next → AreOldZonesInTurn (drop i origins) rs cs
  from_next next =
      subst (λ os. AreOldZonesInTurn os rs cs) (sym opened)
      (subst (λ k. IsOldZoneOf o (take k rs) (take (changes_first o cs) cs) × AreOldZonesInTurn (drop (i + 1) origins) (drop k rs) (drop (changes_first o cs) cs)) n_is
      (subst (λ k. IsOldZoneOf o (take n rs) (take k cs) × AreOldZonesInTurn (drop (i + 1) origins) (drop n rs) (drop k cs)) m_is next))

  pub to_next : AreOldZonesInTurn (drop i origins) rs cs → Next
  to_next turn =
      subst (λ k. IsOldZoneOf o (take n rs) (take k cs) × AreOldZonesInTurn (drop (i + 1) origins) (drop n rs) (drop k cs)) (sym m_is)
      (subst (λ k. IsOldZoneOf o (take k rs) (take (changes_first o cs) cs) × AreOldZonesInTurn (drop (i + 1) origins) (drop k rs) (drop (changes_first o cs) cs)) (sym n_is)
      (subst (λ os. AreOldZonesInTurn os rs cs) opened turn))

  pub zones_next : zones_in_turn (drop i origins) rs cs ≡ zone_rows_in o (take n rs) (take m cs) ∷ zones_in_turn (drop (i + 1) origins) (drop n rs) (drop m cs)
  zones_next =
      ap (λ os. zones_in_turn os rs cs) opened
      ∙ ap (λ k. zone_rows_in o (take k rs) (take (changes_first o cs) cs) ∷ zones_in_turn (drop (i + 1) origins) (drop k rs) (drop (changes_first o cs) cs)) (sym n_is)
      ∙ ap (λ k. zone_rows_in o (take n rs) (take k cs) ∷ zones_in_turn (drop (i + 1) origins) (drop n rs) (drop k cs)) (sym m_is)

pub none_left : (origins : List Labels) (i : ℕ) (rs : List ZoneRecord) (cs : List ChangedRecord) → length origins ≤ i → zones_in_turn (drop i origins) rs cs ≡ []
none_left origins i rs cs past = ap (λ os. zones_in_turn os rs cs) (drop_all i origins past)

pub at_end : (origins : List Labels) (i : ℕ) (rs : List ZoneRecord) (cs : List ChangedRecord) → length origins ≤ i → (AreOldZonesInTurn (drop i origins) rs cs ↔ ((rs ≡ []) × (cs ≡ [])))
at_end origins i rs cs past =
    let none : drop i origins ≡ [] = drop_all i origins past in
    (subst (λ os. AreOldZonesInTurn os rs cs) none, subst (λ os. AreOldZonesInTurn os rs cs) (sym none))

-- how far the walk has come
pub record IsWalked (origins : List Labels) (all : List ZoneRecord) (made : List ChangedRecord) (i : ℕ) (rs : List ZoneRecord) (cs : List ChangedRecord) (steps : MigrationSteps) : Type 0 where
  pub turn : AreOldZonesInTurn (drop i origins) rs cs ↔ AreOldZonesInTurn origins all made
  pub steps_are : Left steps (zones_in_turn (drop i origins) rs cs) (zones_in_turn origins all made)
  pub each : AllByRecursion IsZoneRecord rs
  pub room : steps.zones ≤ i

module _ (origins : List Labels) (all : List ZoneRecord) (made : List ChangedRecord) (i : ℕ) (rs : List ZoneRecord) (cs : List ChangedRecord) (steps : MigrationSteps) (w : IsWalked origins all made i rs cs steps) where
  module _ (o : Labels) (below : i < length origins) (is : o ≡ get_or origins i o) (n m : ℕ) (n_is : n ≡ records_first o rs) (m_is : m ≡ changes_first o cs) where
    pub one_zone : AreOldZonesInTurn origins all made → IsOldZoneOf o (take n rs) (take m cs)
    one_zone turn = (to_next origins i rs cs o below is n m n_is m_is (w.turn.1 turn)).0

    pub walked_more : (new : MigrationSteps) → IsOldZoneOf o (take n rs) (take m cs) → GoesOn steps new (zone_rows_in o (take n rs) (take m cs)) → IsWalked origins all made (i + 1) (drop n rs) (drop m cs) new
    walked_more new zone goes = record {
      turn = (
        λ later. w.turn.0 (from_next origins i rs cs o below is n m n_is m_is (zone, later)),
        λ turn. (to_next origins i rs cs o below is n m n_is m_is (w.turn.1 turn)).1,
      );
      steps_are =
          left_more steps new (zone_rows_in o (take n rs) (take m cs)) (zones_in_turn (drop (i + 1) origins) (drop n rs) (drop m cs)) (zones_in_turn origins all made) goes
          (subst (λ l. Left steps l (zones_in_turn origins all made)) (zones_next origins i rs cs o below is n m n_is m_is) w.steps_are);
      each = back_all IsZoneRecord n rs w.each;
      room = counted (is_changed (zone_rows_in o (take n rs) (take m cs))) goes.zones;
    }
      where
        counted : (b : Bool) → new.zones ≡ (if b then steps.zones + 1 else steps.zones) → new.zones ≤ i + 1
        counted true e = let k = w.room in omega arith
        counted false e = let k = w.room in omega arith

  pub walked_all : length origins ≤ i → rs ≡ [] → cs ≡ [] → AreOldZonesInTurn origins all made × AreSteps steps (zones_in_turn origins all made)
  walked_all past no_records no_changes = (
    w.turn.0 ((at_end origins i rs cs past).1 (no_records, no_changes)),
    left_none steps (zones_in_turn origins all made) (subst (λ l. Left steps l (zones_in_turn origins all made)) (none_left origins i rs cs past) w.steps_are),
  )

  pub nothing_left : length origins ≤ i → AreOldZonesInTurn origins all made → (rs ≡ []) × (cs ≡ [])
  nothing_left past turn = (at_end origins i rs cs past).0 (w.turn.1 turn)

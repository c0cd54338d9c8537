-- What is shown of a disk, and what is on it after a command.
use Rattle.std.proofs.Common.{◌≡◌, ◌≢◌, ◌⊎◌, ◌∙◌, ℕ, ℤ, Bool, true, false, if◌then◌else◌, List, [], ◌∷◌, pos, Option, Some, None, Result, Ok, Err, IsPermutation, IsTrue, refl, sym, ap, subst, inl, inr}
use Rattle.std.specs.List.{AllZip}
use Rattle.sqlite_value.specs.Order.{Row}
use Rattle.sqlite_schema.specs.declared.schema.Schema.{Schema}
use Rattle.sqlite_catalog.specs.Listing.{AreListed, IsTableRow, IsIndexRow, IsViewRow}
use Rattle.sqlite_trees.specs.Objects.{catalog_tree}
use Rattle.sqlite_trees.specs.Tree.{Trees}
use Rattle.sqlite.specs.Effect.{Database}
use Rattle.sqlite.specs.State.{State as Shown, HasCleanDisk}
use Rattle.zone_core.specs.Zones.{ZoneOf, serial_of}
use Rattle.office_model.specs.States.{Held, State, zone_held}
use Rattle.store_sql.specs.Rows.{RowsOf}
use Rattle.store_sql.specs.Holds.{AreRows, Holds}
use Rattle.store_sql.specs.Tables.{no_schema}
use Rattle.store_rows.specs.Batches.{nothing_held}
use Rattle.store_rows.specs.Contents.{ContentOf, IsContent, Means}
use Rattle.store_rows.specs.Removals.{without_zone}
use Rattle.store_rows.proofs.GoneZoneLemmas.{zones_go}
use Rattle.store_rows.proofs.ListLemmas.{one_moved}
use Rattle.store_faults.specs.StoreFaults.{IsFailure, Gives, Refuses}
use Rattle.store_faults.specs.declared.store_fault.StoreFault.{StoreFault}
use Rattle.store_faults.specs.declared.store_fault.StoreFault.TheVariants as fault
use Rattle.office_store.specs.Holds.{HoldsState, LeavesStates, IsStateIn}
use Rattle.office_store.specs.Migration.{IsNewIn, IsMigratedFrom}
use Rattle.office_store.specs.MigratedContents.{migrated_content}
use Rattle.office_store.specs.Queries.{Asked}
use Rattle.office_store.specs.Zones.{if_free, if_later, with_imported, with_replaced}
use Rattle.office_store.proofs.QueryLemmas.{settled_of}
use Rattle.office_store.proofs.VersionLemmas.{one_version}
use Rattle.cli_core.specs.declared.job.Existing.{Existing}
use Rattle.cli_core.specs.declared.job.Existing.TheVariants.{Kept, Replaced}
use Rattle.cli_store.specs.ImportList.{Stays}
use Rattle.cli_store.specs.Puts.{put_into, with_put}
use Rattle.cli_store.specs.Remove.{removed_line, removal, IsTakenOut}
use Rattle.cli_store.specs.Stores.{IsAdopted, IsNoStore, IsMade, IsUnmade, IsMigratedTo, IsUnmigrated, IsPut}
use Rattle.cli_store.specs.Starts.{IsBare, HasState, held, none, old, Finds}
use Rattle.cli_store.proofs.RemovalLemmas.{taken_fails}

-- ---- tables that are listed

zip_none : {A B : Type 0} (P : A → B → Type 0) (xs : List B) → AllZip P [] xs → xs ≡ []
zip_none P [] are = refl
zip_none P (x ∷ xs) are = absurd are

nothing_listed : (schema : Schema) → AreListed [] schema → schema ≡ no_schema
nothing_listed schema listed =
    let tables = zip_none IsTableRow schema.tables listed.tables in
    let indexes = zip_none (IsIndexRow schema.tables) schema.indexes listed.indexes in
    let views = zip_none IsViewRow schema.views listed.views in
    λ i. record { tables = tables i; indexes = indexes i; views = views i }

-- rows of version 1 are not rows of version 2
versions_are_apart : (db : Trees) (rows others : RowsOf) → IsPermutation (pos 1 ∷ []) rows.versions → IsPermutation (pos 2 ∷ []) others.versions → AreRows db rows → AreRows db others → ⊥
versions_are_apart db rows others one two a b =
    let first = one_version (db 0) (pos 1) rows.versions others.versions one a.versions b.versions in
    let second = one_moved (pos 2) others.versions two in
    cc

one_listed : (n : ℤ) (versions : List ℤ) → IsPermutation (n ∷ []) versions → versions ≢ []
one_listed n versions one empty = let all = one_moved n versions one in cc

-- a content that is a state once it is migrated is that state in the tables
is_new : (db : Trees) (content : ContentOf) (s : State) → IsContent content → Means content s → IsNewIn db content → IsStateIn db s
is_new db content s is means new = (new.0, record { content = content; is_content = is; means = means; same = new.1 }, new.2)

-- what a crash leaves of one state is that state
leaves_one : (after : Shown) (s : State) (next : Trees) → LeavesStates after s s → HasCleanDisk after → after.may_leave next → IsStateIn next s
leaves_one after s next left clean may = elim (left clean next may) [ inl is ↦ is | inr is ↦ is ]

-- ---- a connection to a disk

-- while it is open, a crash leaves what was committed
abbrev pub Settles : Shown → Type 0
Settles conn = (next : Trees) → IsTrue conn.is_open → conn.may_leave next → next ≡ conn.committed.trees

module _ (db : Trees) (found : Shown) (finds : Finds db found) (settles : Settles found) where
  -- what a crash leaves of what was found is what was there
  pub unchanged : (next : Trees) → found.may_leave next → next ≡ db
  unchanged next may = settles next finds.up may ∙ ap (λ (d : Database). d.trees) finds.settled ∙ finds.shown

  pub still : (s : State) (next : Trees) → HasState db s → found.may_leave next → HasState next s
  still s next has may = subst (λ (d : Trees). HasState d s) (sym (unchanged next may)) has

  no_tables : IsBare db → found.now.schema ≡ no_schema
  no_tables bare =
      nothing_listed found.now.schema (subst (λ (rows : List Row). AreListed rows found.now.schema) (ap (λ (t : Trees). t catalog_tree) finds.shown ∙ bare) finds.sound.lists.listed)

  rows_there : (rows : RowsOf) → Holds found rows → AreRows db rows
  rows_there rows holds = subst (λ (t : Trees). AreRows t rows) finds.shown (holds finds.up).0.tables

  bare_has_no_rows : IsBare db → (rows : RowsOf) → Holds found rows → ⊥
  bare_has_no_rows bare rows holds = absurd (let tables = ap (λ (s : Schema). s.tables) (sym (holds finds.up).0.schema ∙ no_tables bare) in cc)

  -- ---- a table that is opened there

  was_shown : (now : Shown) → IsAdopted found now → HasCleanDisk now → (s : State) × HoldsState found s
  was_shown now adopted clean = let some = adopted.holds clean in (some.0, (adopted.only clean).same some.0 some.1)

  opened : (now : Shown) (s : State) → IsAdopted found now → HasCleanDisk now → IsStateIn db s → HoldsState now s × LeavesStates now s s
  opened now s adopted clean is =
      let only = adopted.only clean in
      let reads = (was_shown now adopted clean).1.held finds.up in
      let here : HoldsState found s = record {
        rows = is.0;
        are = is.1;
        held = λ up. (record { schema = reads.0.schema; tables = subst (λ (t : Trees). AreRows t is.0) (sym finds.shown) is.2 }, reads.1);
      } in
      let there = adopted.asked.same s here in
      (there, settled_of now s only.up (λ d up may. adopted.left clean d may) there)

  -- it holds the state that the disk has
  pub adopted_holds : (now : Shown) (s : State) → IsAdopted found now → HasCleanDisk now → HasState db s → HoldsState now s × LeavesStates now s s
  adopted_holds now s adopted clean (held is) = opened now s adopted clean is
  adopted_holds now s adopted clean (none bare e) = let some = was_shown now adopted clean in absurd (bare_has_no_rows bare some.1.rows some.1.held)
  adopted_holds now s adopted clean (old is) =
      let some = was_shown now adopted clean in
      absurd (versions_are_apart db is.rows some.1.rows is.has.same.versions some.1.are.same.versions is.has.here (rows_there some.1.rows some.1.held))

  -- none is there, and the disk has what it had
  pub no_store : (after : Shown) (fault : StoreFault) (s : State) (next : Trees) → IsNoStore found after fault → HasCleanDisk after → HasState db s → after.may_leave next → HasState next s
  no_store after fault s next refused clean has may = still s next has (refused.asked.left clean next may)

  -- ---- tables that are made there

  bare_holds_nothing : (s : State) → ¬ (found.now.schema ≢ no_schema) → HasState db s → s ≡ nothing_held
  bare_holds_nothing s bare (held is) = absurd (bare (finds.listed is.0 is.2 (one_listed (pos 2) is.0.versions is.1.same.versions)))
  bare_holds_nothing s bare (none listed e) = e
  bare_holds_nothing s bare (old is) = absurd (bare (finds.listed is.rows is.has.here (one_listed (pos 1) is.rows.versions is.has.same.versions)))

  pub made_holds : (now : Shown) (s : State) → IsMade found now → HasState db s → HoldsState now s × LeavesStates now s s
  made_holds now s made has =
      subst (λ (t : State). HoldsState now t × LeavesStates now t t) (sym (bare_holds_nothing s made.bare has)) (made.holds, made.left)

  pub unmade : (after : Shown) (fault : StoreFault) (s : State) (next : Trees) → IsUnmade found after fault → HasCleanDisk after → HasState db s → after.may_leave next → HasState next s
  unmade after fault s next refused clean has may = elim (refused.crash clean next may) [
    | inl was ↦ still s next has was
    | inr empty ↦ held (subst (IsStateIn next) (sym (bare_holds_nothing s refused.bare has)) empty)
  ]

  -- ---- a migration

  pub migrated : (after : Shown) (zones : ℕ) (s : State) (next : Trees) → IsMigratedTo found after zones → HasCleanDisk after → HasState db s → after.may_leave next → HasState next s
  migrated after zones s next made clean (held is) may =
      let m = made clean in
      absurd (versions_are_apart db m.before.rows is.0 m.before.same.versions is.1.same.versions (rows_there m.before.rows m.before.held) is.2)
  migrated after zones s next made clean (none bare e) may = let m = made clean in absurd (bare_has_no_rows bare m.before.rows m.before.held)
  migrated after zones s next made clean (old is) may =
      let m = made clean in
      let means = is.each m.content m.before.rows (record { is = m.before.is; same = m.before.same; here = rows_there m.before.rows m.before.held }) in
      held (is_new next (migrated_content m.content) s m.after.is means (m.left clean next may))

  half_migrated : (s : State) (next : Trees) → IsMigratedFrom found next → HasState db s → HasState next s
  half_migrated s next m (held is) =
      let each = m.each m.rows m.held in
      absurd (versions_are_apart db m.rows is.0 each.2.versions is.1.same.versions (rows_there m.rows m.held) is.2)
  half_migrated s next m (none bare e) = absurd (bare_has_no_rows bare m.rows m.held)
  half_migrated s next m (old is) =
      let each = m.each m.rows m.held in
      let means = is.each each.0 m.rows (record { is = each.1; same = each.2; here = rows_there m.rows m.held }) in
      held (is_new next (migrated_content each.0) s each.3 means each.4)

  pub unmigrated : (after : Shown) (fault : StoreFault) (s : State) (next : Trees) → IsUnmigrated found after fault → HasCleanDisk after → HasState db s → after.may_leave next → HasState next s
  unmigrated after fault s next refused clean has may =
      elim (refused.crash clean next may) [ inl was ↦ still s next has was | inr m ↦ half_migrated s next m has ]

-- ---- a table that holds a state

-- that is only asked
pub asked_still : (now after : Shown) (s : State) (next : Trees) → Asked now after → LeavesStates now s s → HasCleanDisk after → after.may_leave next → HasState next s
asked_still now after s next asked left clean may = held (leaves_one after s next (asked.crash s s left) clean may)

pub left_still : (now : Shown) (s : State) (next : Trees) → LeavesStates now s s → HasCleanDisk now → now.may_leave next → HasState next s
left_still now s next left clean may = held (leaves_one now s next left clean may)

-- that stays
pub stays_still : (now after : Shown) (s : State) (next : Trees) → Stays now after → LeavesStates now s s → HasCleanDisk after → after.may_leave next → HasState next s
stays_still now after s next stays left clean may = held (leaves_one after s next (stays.crash s s left) clean may)

-- into which a zone is put
pub put_made : (existing : Existing) (zone : ZoneOf) (now after : Shown) (s : State) (next : Trees) (done : Unit {0}) → IsPut existing zone now after (Ok done) → HoldsState now s → HasCleanDisk after
    → after.may_leave next → (put_into existing s zone ≡ Ok zone) × HasState next (with_put existing s zone)
put_made existing zone now after s next done put holds clean may =
    (put.1 clean s holds, held (leaves_one after (with_put existing s zone) next (put.0.kept clean s holds) clean may))

free_is : (zone other : ZoneOf) (o : Option Held) → if_free o zone ≡ Ok other → other ≡ zone
free_is zone other None e = cc
free_is zone other (Some there) e = absurd cc

less_is : (zone other : ZoneOf) (b : Bool) (refusal : StoreFault) → (if b then Ok zone else Err refusal) ≡ Ok other → other ≡ zone
less_is zone other true refusal e = cc
less_is zone other false refusal e = absurd cc

later_is : (zone other : ZoneOf) (o : Option Held) → if_later o zone ≡ Ok other → other ≡ zone
later_is zone other None e = absurd cc
later_is zone other (Some there) e = less_is zone other _ fault.SerialNotGreater e

put_is : (existing : Existing) (s : State) (zone other : ZoneOf) → put_into existing s zone ≡ Ok other → other ≡ zone
put_is Kept s zone other e = free_is zone other (s.zones zone.origin) e
put_is Replaced s zone other e = later_is zone other (s.zones zone.origin) e

-- a zone that is refused changes nothing
refused_stays : (existing : Existing) (s : State) (zone : ZoneOf) (refusal : StoreFault) → put_into existing s zone ≡ Err refusal → with_put existing s zone ≡ s
refused_stays Kept s zone refusal e = ap (with_imported s) e
refused_stays Replaced s zone refusal e = ap (with_replaced s) e

-- a zone that was put though a failure was told: the store could take it
pub record WasPut (existing : Existing) (zone : ZoneOf) (s : State) (refusal : StoreFault) (next : Trees) : Type 0 where
  pub taken : put_into existing s zone ≡ Ok zone
  pub failed : IsFailure refusal
  pub has : HasState next (with_put existing s zone)

was_put : (existing : Existing) (zone : ZoneOf) (s : State) (refusal : StoreFault) (next : Trees) (told : Result ZoneOf StoreFault) → put_into existing s zone ≡ told
    → Gives {X = Unit {0}} (λ _. zone) (Err refusal) told → IsStateIn next (with_put existing s zone) → HasState next s ⊎ WasPut existing zone s refusal next
was_put existing zone s refusal next (Ok other) e gives is = inr (record {
  taken = e ∙ ap (λ (z : ZoneOf). let r : Result ZoneOf StoreFault = Ok z in r) (put_is existing s zone other e);
  failed = taken_fails refusal other gives;
  has = held is;
})
was_put existing zone s refusal next (Err why) e gives is = inl (held (subst (IsStateIn next) (refused_stays existing s zone why e) is))

pub put_refused : (existing : Existing) (zone : ZoneOf) (now after : Shown) (s : State) (next : Trees) (refusal : StoreFault) → IsPut existing zone now after (Err refusal) → HoldsState now s × LeavesStates now s s
    → HasCleanDisk after → after.may_leave next → HasState next s ⊎ WasPut existing zone s refusal next
put_refused existing zone now after s next refusal put holds clean may = elim (put.0.crash s holds.0 holds.1 clean next may) [
  | inl is ↦ inl (held is)
  | inr is ↦ was_put existing zone s refusal next (put_into existing s zone) refl (put.1 clean s holds.0) is
]

-- ---- a table from which a zone is taken out

-- the line tells the serial of what was held
line_is : (origin : List (List ℕ)) (o : Option Held) (line : List ℕ) → removal origin o ≡ Ok line → (held : Held) × (o ≡ Some held) × (line ≡ removed_line origin (serial_of (zone_held origin held)))
line_is origin None line told = absurd (cc told)
line_is origin (Some there) line told = (there, refl, sym (cc told))

pub taken_out : (origin : List (List ℕ)) (now after : Shown) (s : State) (next : Trees) (line : List ℕ) → IsTakenOut origin now after (Ok line) → HoldsState now s → HasCleanDisk after → after.may_leave next
    → ((there : Held) × (s.zones origin ≡ Some there) × (line ≡ removed_line origin (serial_of (zone_held origin there)))) × HasState next (without_zone s origin)
taken_out origin now after s next line takes holds clean may =
    (line_is origin (s.zones origin) line (takes.1 clean s holds), held (leaves_one after (without_zone s origin) next (takes.0.kept clean s holds) clean may))

-- a zone that was taken out though a failure was told
pub record WasTakenOut (origin : List (List ℕ)) (s : State) (refusal : StoreFault) (next : Trees) : Type 0 where
  pub there : Held
  pub is : s.zones origin ≡ Some there
  pub failed : IsFailure refusal
  pub has : HasState next (without_zone s origin)

was_taken_out : (origin : List (List ℕ)) (s : State) (refusal : StoreFault) (next : Trees) (o : Option Held) → s.zones origin ≡ o → Refuses {Y = List ℕ} refusal (removal origin o)
    → IsStateIn next (without_zone s origin) → HasState next s ⊎ WasTakenOut origin s refusal next
was_taken_out origin s refusal next None e refuses is = inl (held (subst (IsStateIn next) (zones_go.same s origin e) is))
was_taken_out origin s refusal next (Some there) e refuses is =
    inr (record { there = there; is = e; failed = taken_fails refusal (removed_line origin (serial_of (zone_held origin there))) refuses; has = held is })

pub removal_refused : (origin : List (List ℕ)) (now after : Shown) (s : State) (next : Trees) (refusal : StoreFault) → IsTakenOut origin now after (Err refusal) → HoldsState now s × LeavesStates now s s
    → HasCleanDisk after → after.may_leave next → HasState next s ⊎ WasTakenOut origin s refusal next
removal_refused origin now after s next refusal takes holds clean may = elim (takes.0.crash s holds.0 holds.1 clean next may) [
  | inl is ↦ inl (held is)
  | inr is ↦ was_taken_out origin s refusal next (s.zones origin) refl (takes.1 clean s holds.0) is
]

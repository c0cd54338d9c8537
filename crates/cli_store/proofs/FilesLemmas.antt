-- What is done in the store of a path, step by step.
use Rattle.std.proofs.Common.{◌≡◌, ◌⊎◌, inl, inr, ℕ, Bool, List, Option, Some, None, Result, Ok, Err, IfOk, IfErr, OnErr, ap, refl}
use Rattle.std.specs.Result.{result_map_both}
use Rattle.cli_core.specs.declared.line_fault.JobFault.{JobFault}
use Rattle.cli_store.specs.Around.{Around}
use Rattle.cli_store.specs.Serve.{IsServiceTold}
use Rattle.dns_names.specs.Reading.{absolute_name}
use Rattle.cli_text.specs.Canon.{zone_read}
use Rattle.cli_core.specs.declared.line_fault.LineFault.{LineFault}
use Rattle.cli_core.specs.declared.line_fault.LineFault.TheVariants.{NoMemory}
use Rattle.cli_core.specs.LineFaults.{Makes, GivesOf, of_names, of_store}
use Rattle.cli_store.specs.Import.{imported_line, IsImported}
use Rattle.cli_store.specs.Export.{IsExported}
use Rattle.dns_data.specs.declared.record.Record.{Record}
use Rattle.sqlite.specs.State.{State as Shown, HasCleanDisk}
use Rattle.zone_core.specs.Zones.{ZoneOf}
use Rattle.cli_core.specs.declared.job.Existing.{Existing}
use Rattle.store_sql.specs.Holds.{Keeps, Leaves}
use Rattle.store_rows.specs.Contents.{ContentOf}
use Rattle.store_faults.specs.StoreFaults.{IsFailure, IsOfRows}
use Rattle.store_faults.specs.declared.store_fault.StoreFault.{StoreFault}
use Rattle.store_faults.specs.declared.store_fault.StoreFault.TheVariants.{WrongVersion, BadRow}
use Rattle.office_store.specs.Holds.{IsOfVersion}
use Rattle.office_store.specs.Migration.{HoldsOld, IsMigrated, IsMigratedFrom}
use Rattle.office_store.specs.Queries.{Asked}
use Rattle.std.specs.Prelude.{pos}
use Rattle.cli_store.specs.Stores.{IsLeft, IsMigratedTo, IsUnmigrated, IsMigratedStore, IsReached, IsPut, IsStored, IsOpened, IsGot, IsHeld}

pub map_ok : {X E : Type 0} {P Q : X → Type 0} (r : Result X E) → ((x : X) → P x → Q x) → IfOk r P → IfOk r Q
map_ok (Ok x) f p = f x p
map_ok (Err e) f p = tt

pub map_err : {X E : Type 0} {P Q : E → Type 0} (r : Result X E) → ((e : E) → P e → Q e) → IfErr r P → IfErr r Q
map_err (Ok x) f p = tt
map_err (Err e) f p = f e p

-- a connection that is handed back in one way is so in another
pub left_as : {C : Type 0} {P Q : C → Type 0} (left : Option C) → ((after : C) → P after → Q after) → IsLeft left P → IsLeft left Q
left_as left f p = (p.0, p.1, f p.0 p.2)

module _ (found after : Shown) where
  pub migrated_to : (r : Result ℕ StoreFault) → (HasCleanDisk after → IfOk r (IsMigrated found after)) → IfOk r (IsMigratedTo found after)
  migrated_to (Ok zones) made = made
  migrated_to (Err fault) made = tt

  pub unmigrated : (r : Result ℕ StoreFault) → OnErr r (Keeps found after)
      → (HasCleanDisk after → IfErr r (λ e. (content : ContentOf) → HoldsOld found content → IsFailure e))
      → (HasCleanDisk after → r ≡ Err WrongVersion → ¬ IsOfVersion (pos 1) found)
      → (HasCleanDisk after → r ≡ Err BadRow → IsOfVersion (pos 1) found) → IfErr r (λ e. (e ≡ WrongVersion) ⊎ IsOfRows e)
      → OnErr r (Leaves after (λ db. found.may_leave db ⊎ IsMigratedFrom found db)) → ((r ≡ Err WrongVersion) ⊎ (r ≡ Err BadRow) → Asked found after)
      → IfErr r (IsUnmigrated found after)
  unmigrated (Ok zones) keeps good wrong bad named crash asked = tt
  unmigrated (Err fault) keeps good wrong bad named crash asked = record {
    keeps = keeps;
    named = named;
    good = good;
    wrong = λ clean same. wrong clean (ap (λ (e : StoreFault). let r : Result ℕ StoreFault = Err e in r) same);
    bad = λ clean same. bad clean (ap (λ (e : StoreFault). let r : Result ℕ StoreFault = Err e in r) same);
    crash = crash;
    same = λ why. asked (elim why [ inl is ↦ inl (ap (λ (e : StoreFault). let r : Result ℕ StoreFault = Err e in r) is) | inr is ↦ inr (ap (λ (e : StoreFault). let r : Result ℕ StoreFault = Err e in r) is) ]);
  }

module _ {C : Type 0} (shows : C → Shown) (finds : Bool → Type 0) (refuses : StoreFault → Type 0) (connects : C → Type 0) where
  pub migrated_store : (found after : C) (r : Result ℕ StoreFault) → connects found → IfOk r (IsMigratedTo (shows found) (shows after))
      → IfErr r (IsUnmigrated (shows found) (shows after)) → IsMigratedStore shows finds refuses connects (Some after) r
  migrated_store found after (Ok zones) connected made refused = (found, connected, (after, refl, made))
  migrated_store found after (Err fault) connected made refused = inr (found, connected, (after, refl, refused))

  pub stored_by : (existing : Existing) (zone : ZoneOf) (now after : C) (r : Result (Unit {0}) StoreFault) → IsReached shows connects existing now
      → IsPut existing zone (shows now) (shows after) r → IsStored shows finds refuses connects existing zone (Some after) r
  stored_by existing zone now after (Ok done) reached put = (now, reached, (after, refl, put))
  stored_by existing zone now after (Err fault) reached put = inr (now, reached, (after, refl, put))

  pub got_by : {X : Type 0} (got : Shown → Shown → Result X StoreFault → Type 0) (now after : C) (r : Result X StoreFault) → IsOpened shows connects now
      → got (shows now) (shows after) r → IsGot shows finds refuses connects got (Some after) r
  got_by got now after (Ok x) opened read = (now, opened, (after, refl, read))
  got_by got now after (Err fault) opened read = inr (now, opened, (after, refl, read))

  -- what is read, seen by a view
  pub got_seen : {X Y : Type 0} (view : X → Y) (got : Shown → Shown → Result Y StoreFault → Type 0) (conn : Option C) (r : Result X StoreFault)
      → IsGot shows finds refuses connects (λ now after x. got now after (result_map_both view (λ fault. fault) x)) conn r
      → IsGot shows finds refuses connects got conn (result_map_both view (λ fault. fault) r)
  got_seen view got conn (Ok x) is = is
  got_seen view got conn (Err fault) is = is

  -- a zone was read, its line was made, and it was put into the store or refused
  pub put_read : {X : Type 0} (view : X → List ℕ) (left : Option (List ℕ)) (origin : List ℕ) (existing : Existing) (zone : ZoneOf) (conn : Option C) (done : Result (Unit {0}) StoreFault) (line : X) (fine failed : Type 0)
      → Makes left (zone_read origin) (Ok zone) → fine → view line ≡ imported_line zone → IsStored shows finds refuses connects existing zone conn done
      → IsImported shows left origin finds refuses connects existing conn (result_map_both view (λ fault. fault) (result_map_both (λ _. line) of_store done)) fine failed
  put_read view left origin existing zone conn (Ok done) line fine failed read well e stored = (zone, read, well, (stored, e))
  put_read view left origin existing zone conn (Err fault) line fine failed read well e refused = inr (zone, read, well, inr (fault, refl, refused))

  -- none was read, or memory ran out for its line
  pub put_unread : (left : Option (List ℕ)) (origin : List ℕ) (existing : Existing) (fault : LineFault) (fine failed : Type 0)
      → GivesOf {X = ZoneOf} (λ zone. zone) left (zone_read origin) (Err fault) fine failed ⊎ ((zone : ZoneOf) × Makes left (zone_read origin) (Ok zone) × fine × (fault ≡ NoMemory))
      → IsImported shows left origin finds refuses connects existing None (Err fault) fine failed
  put_unread left origin existing fault fine failed (inl unread) = inl (unread, refl)
  put_unread left origin existing fault fine failed (inr read) = inr (read.0, read.1, read.2, inl (read.3, refl))

  pub found_exported : {X : Type 0} (view : X → List Record) (word : List ℕ) (origin : List (List ℕ)) (conn : Option C) (held : Result X StoreFault)
      → of_names (absolute_name word) ≡ Ok origin → IsHeld shows finds refuses connects view origin conn held
      → IsExported shows view word finds refuses connects conn (result_map_both (λ records. (origin, records)) of_store held)
  found_exported view word origin conn (Ok records) e held = (e, held)
  found_exported view word origin conn (Err fault) e refused = inr (origin, e, (fault, refl, refused))

  pub seen_exported : {X : Type 0} (view : X → List Record) (word : List ℕ) (conn : Option C) (found : Result (List (List ℕ) × X) LineFault)
      → IsExported shows view word finds refuses connects conn found
      → IsExported shows (λ records. records) word finds refuses connects conn (result_map_both (λ it. (it.0, view it.1)) (λ fault. fault) found)
  seen_exported view word conn (Ok found) is = is
  seen_exported view word conn (Err fault) is = is

-- what a service does where it does nothing, and where connections are served, said in another way
pub told_as : {H : Type 0} (a : Around H) (listen : List ℕ) (most : ℕ) (cut : H → Type 0) (old new : Option (List ℕ)) (result : Result (Unit {0}) JobFault) (before after : ℕ) {idle other : Type 0}
    {served others : Option (List ℕ) → H → H → Type 0} → (idle → other) → ((mid : Option (List ℕ)) (l m : H) → served mid l m → others mid l m)
    → IsServiceTold a listen most cut idle served old new result before after → IsServiceTold a listen most cut other others old new result before after
told_as a listen most cut old new result before after f g (inl refused) = inl (refused.0, refused.1, refused.2, f refused.3)
told_as a listen most cut old new result before after f g (inr (listener, address, heard, inl failed)) = inr (listener, address, heard, inl (failed.0, failed.1, failed.2, f failed.3))
told_as a listen most cut old new result before after f g (inr (listener, address, heard, inr done)) =
    inr (listener, address, heard, inr (done.0, done.1, done.2, done.3, g done.0 listener done.3 done.4))

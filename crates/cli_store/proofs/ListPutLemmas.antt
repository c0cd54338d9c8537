-- Zones of a list that are put into a store one after the other.
use Rattle.std.proofs.Common.{◌≡◌, ◌⊎◌, ◌∙◌, ℕ, ◌+◌, ◌<◌, ◌≤◌, true, false, List, [], ◌∷◌, ◌++◌, length, drop, get_or, Option, Result, Ok, Err, refl, sym, ap, subst, inl, inr, append-nil}
use Rattle.std.specs.Bool.{⊤}
use Rattle.std.specs.Prelude.{is_some}
use Rattle.std.specs.Io.KnownBytes.{Appends}
use Rattle.std.specs.Result.{result_map_both}
use Rattle.std.proofs.KnownBytes.{Appends-nil, Appends-trans}
use Rattle.std.proofs.lemmas.List.{drop_more, drop_all}
use Rattle.sqlite.specs.State.{State as Shown, HasCleanDisk}
use Rattle.zone_core.specs.Zones.{ZoneOf}
use Rattle.office_model.specs.States.{State}
use Rattle.store_faults.specs.declared.store_fault.StoreFault.{StoreFault}
use Rattle.office_store.specs.Holds.{HoldsState}
use Rattle.store_faults.specs.StoreFaults.{IsFailure}
use Rattle.store_faults.specs.declared.store_fault.StoreFault.TheVariants as store
use Rattle.cli_core.specs.declared.commands.import.ImportList.{ImportList}
use Rattle.cli_core.specs.declared.job.Existing.{Existing}
use Rattle.cli_core.specs.declared.job.Existing.TheVariants.{Kept}
use Rattle.cli_core.specs.declared.line_fault.JobFault.{JobFault}
use Rattle.cli_core.specs.declared.line_fault.JobFault.TheVariants.{Reported, WriteFailed}
use Rattle.cli_core.specs.declared.line_fault.LineFault.{LineFault}
use Rattle.cli_core.specs.declared.line_fault.LineFault.TheVariants.{NoMemory}
use Rattle.cli_core.specs.LineFaults.{limited, Makes, GivesOf, of_store}
use Rattle.cli_core.specs.Replies.{IsRefusalWritten}
use Rattle.cli_core.proofs.JobLemmas.{front_behind}
use Rattle.cli_text.specs.Canon.{zone_read}
use Rattle.wire_tcp.specs.Connections.{Writing}
use Rattle.cli_store.specs.declared.zone_files.ZoneFile.{ZoneFile}
use Rattle.cli_store.specs.Around.{Around}
use Rattle.cli_store.specs.Import.{imported_line}
use Rattle.cli_store.specs.ImportList.{Passed, stayed, came, kept_line, passed_line, passed_lines, state_passed, TurnsTo, Stays, IsUnput, IsNotPassed, IsPutFrom, Passes, IsPassedBy, ArePut, TextImported, ListImported}
use Rattle.cli_store.specs.Reports.{IsReported}
use Rattle.cli_store.specs.Stores.{StoresOf, IsPut}
use Rattle.cli_store.specs.ZoneFiles.{ZoneFileOf, zone_file_view}
use Rattle.cli_store.proofs.ZoneFileLemmas.{views, list_refused, list_read}

-- ---- what connections show

pub stays_on : (now mid after : Shown) → Stays now mid → Stays mid after → Stays now after
stays_on now mid after first second = record {
  same = λ s holds. second.same s (first.same s holds);
  crash = λ s t left. second.crash s t (first.crash s t left);
  honest = λ clean. first.honest (second.honest clean);
}

pub stays_here : (now : Shown) → Stays now now
stays_here now = record { same = λ s holds. holds; crash = λ s t left. left; honest = λ clean. clean }

-- a zone that is put where the state was only asked before
pub put_behind : (existing : Existing) (zone : ZoneOf) (now mid after : Shown) (r : Result (Unit {0}) StoreFault) → Stays now mid → IsPut existing zone mid after r → IsPut existing zone now after r
put_behind existing zone now mid after (Ok done) stays put = (
  record {
    made = λ clean s holds. put.0.made clean s (stays.same s holds);
    failed = tt;
    kept = λ clean s holds. put.0.kept clean s (stays.same s holds);
    crash = tt;
    honest = λ clean. stays.honest (put.0.honest clean);
  },
  λ clean s holds. put.1 clean s (stays.same s holds),
)
put_behind existing zone now mid after (Err refusal) stays put = (
  record {
    made = λ clean. tt;
    failed = λ s holds. put.0.failed s (stays.same s holds);
    kept = λ clean. tt;
    crash = λ s holds left. put.0.crash s (stays.same s holds) (stays.crash s s left);
    honest = λ clean. stays.honest (put.0.honest clean);
  },
  λ clean s holds. put.1 clean s (stays.same s holds),
)

module _ (existing : Existing) where
  pub turned_none : (now : Shown) → TurnsTo existing [] now now
  turned_none now = record { made = λ clean s holds. (tt, holds); left = λ clean s holds left. left; honest = λ clean. clean }

  pub turned_stay : (origin : List (List ℕ)) (now after : Shown) → Stays now after → (HasCleanDisk after → (s : State) → HoldsState now s → is_some (s.zones origin) ≡ true)
      → TurnsTo existing (stayed origin ∷ []) now after
  turned_stay origin now after stays there = record {
    made = λ clean s holds. ((there clean s holds, tt), stays.same s holds);
    left = λ clean s holds left. stays.crash s s left;
    honest = stays.honest;
  }

  pub turned_put : (zone : ZoneOf) (now after : Shown) → IsPut existing zone now after (Ok tt) → TurnsTo existing (came zone ∷ []) now after
  turned_put zone now after put = record {
    made = λ clean s holds. ((put.1 clean s holds, tt), put.0.made clean s holds);
    left = λ clean s holds left. put.0.kept clean s holds;
    honest = put.0.honest;
  }

  pub turned_more : (one : Passed) (done : List Passed) (now mid after : Shown) → TurnsTo existing (one ∷ []) now mid → TurnsTo existing done mid after → TurnsTo existing (one ∷ done) now after
  turned_more one done now mid after first rest = record {
    made = λ clean s holds.
        let here = first.made (rest.honest clean) s holds in
        let there = rest.made clean (state_passed existing s one) here.1 in
        ((here.0.0, there.0), there.1);
    left = λ clean s holds left.
        let here = first.made (rest.honest clean) s holds in
        rest.left clean (state_passed existing s one) here.1 (first.left (rest.honest clean) s holds left);
    honest = λ clean. first.honest (rest.honest clean);
  }

-- ---- one zone

module _ {H : Type 0} (a : Around H) (existing : Existing) (zone : ZoneFileOf) where
  unput_behind : (now mid after : Shown) (why : LineFault) → Stays now mid → IsUnput a existing zone mid after why → IsUnput a existing zone now after why
  unput_behind now mid after why stays (inl (given, more)) = inl (given, stays_on now mid after stays more)
  unput_behind now mid after why stays (inr (it, read, refusal, e, put)) = inr (it, read, refusal, e, put_behind existing it now mid after (Err refusal) stays put)

  unput_honest : (now after : Shown) (why : LineFault) → IsUnput a existing zone now after why → HasCleanDisk after → HasCleanDisk now
  unput_honest now after why (inl (given, stays)) clean = stays.honest clean
  unput_honest now after why (inr (it, read, refusal, e, put)) clean = put.0.honest clean

  pub unpassed_honest : (now after : Shown) (why : LineFault) → IsNotPassed a existing zone now after why → HasCleanDisk after → HasCleanDisk now
  unpassed_honest now after why (inl (refusal, failed, e, stays)) clean = stays.honest clean
  unpassed_honest now after why (inr (asked, unput)) clean = unput_honest now after why unput clean

  -- its file was asked for
  pub passes_put : (now mid after : Shown) (r : Result (List ℕ) LineFault) → Stays now mid
      → (HasCleanDisk mid → existing ≡ Kept → (s : State) → HoldsState now s → is_some (s.zones zone.origin) ≡ false) → IsPutFrom a existing zone mid after r → Passes a existing zone now after r
  passes_put now mid after (Ok line) stays free (it, read, put, line_is) =
      (came it, read, turned_put existing it now after (put_behind existing it now mid after (Ok tt) stays put), line_is)
  passes_put now mid after (Err why) stays free (inl (refusal, failed, e, more)) = inl (refusal, failed, e, stays_on now mid after stays more)
  passes_put now mid after (Err why) stays free (inr unput) =
      inr ((λ kept clean s holds. free (unput_honest mid after why unput clean) kept s holds), unput_behind now mid after why stays unput)

  -- its file was refused, or memory ran out for its line
  pub file_refused : (now : Shown) (why : LineFault)
      → GivesOf {X = ZoneOf} (λ it. it) (a.file zone.path) (zone_read zone.word) (Err why) ⊤ (a.unreadable zone.path) ⊎ ((it : ZoneOf) × Makes (a.file zone.path) (zone_read zone.word) (Ok it) × ⊤ × (why ≡ NoMemory))
      → IsPutFrom a existing zone now now (Err why)
  file_refused now why (inl given) = inr (inl (given, stays_here now))
  file_refused now why (inr (it, read, well, e)) = inl (store.NoMemory, tt, e, stays_here now)

  -- its zone was put, or refused
  pub file_put : {X : Type 0} (view : X → List ℕ) (it : ZoneOf) (line : X) (now after : Shown) (done : Result (Unit {0}) StoreFault) → Makes (a.file zone.path) (zone_read zone.word) (Ok it)
      → view line ≡ imported_line it → IsPut existing it now after done
      → IsPutFrom a existing zone now after (result_map_both view (λ why. why) (result_map_both (λ _. line) of_store done))
  file_put view it line now after (Ok done) read e put = (it, read, put, e)
  file_put view it line now after (Err refusal) read e put = inr (inr (it, read, refusal, refl, put))

  -- it stays
  pub passes_kept : (now after : Shown) (line : List ℕ) → Stays now after → existing ≡ Kept → (HasCleanDisk after → (s : State) → HoldsState now s → is_some (s.zones zone.origin) ≡ true)
      → line ≡ kept_line zone.origin → Passes a existing zone now after (Ok line)
  passes_kept now after line stays kept there line_is = (stayed zone.origin, (kept, refl), turned_stay existing zone.origin now after stays there, line_is)

  -- the store failed, or memory ran out
  pub passes_none : (now after : Shown) (refusal : StoreFault) (why : LineFault) → Stays now after → IsFailure refusal → why ≡ of_store refusal → Passes a existing zone now after (Err why)
  passes_none now after refusal why stays failed e = inl (refusal, failed, e, stays)

-- ---- what is written

module _ (line lines : List ℕ) (old between new : Option (List ℕ)) (before n fails : ℕ) (sent : Appends old between line) (fine : n ≡ before) where
  lines_told : (outcome : Result (Unit {0}) JobFault) → IsReported (Ok lines) between new outcome n fails → IsReported (Ok (line ++ lines)) old new outcome before fails
  lines_told (Ok done) told = (Appends-trans old between new line lines sent told.0, told.1 ∙ fine)
  lines_told (Err WriteFailed) told = (front_behind old between new line lines sent told.0, subst (λ (k : ℕ). k < fails) fine told.1)
  lines_told (Err (Reported why)) told = absurd told

-- ---- the list

module _ {C H : Type 0} (shows : C → Shown) (a : Around H) (existing : Existing) where
  pub put_none : (now : C) (old : Option (List ℕ)) (before : ℕ) → ArePut shows a existing [] now now (record { old = old; new = old; before = before; after = before }) (Ok tt)
  put_none now old before = record {
    done = [];
    later = [];
    passed = refl;
    mid = now;
    turned = turned_none existing (shows now);
    end = inl (refl, ((Appends-nil old, refl), λ ok. refl));
  }

  module _ (zone : ZoneFileOf) (zones : List ZoneFileOf) (now mid : C) (old between : Option (List ℕ)) (before n : ℕ) where
    abbrev first : Writing
    first = record { old = old; new = between; before = before; after = n }

    -- a zone was passed, and then the others
    pub put_more : (after : C) (new : Option (List ℕ)) (fails : ℕ) (outcome : Result (Unit {0}) JobFault) → IsPassedBy a existing zone (shows now) (shows mid) first (Ok tt)
        → ArePut shows a existing zones mid after (record { old = between; new = new; before = n; after = fails }) outcome
        → ArePut shows a existing (zone ∷ zones) now after (record { old = old; new = new; before = before; after = fails }) outcome
    put_more after new fails outcome (Err why, unpassed, told) others = absurd told
    put_more after new fails outcome (Ok line, passes, told) others =
        let one = passes.0 in
        let sent = subst (Appends old between) passes.3 told.0 in
        record {
          done = one ∷ others.done;
          later = others.later;
          passed = (passes.1, others.passed);
          mid = others.mid;
          turned = turned_more existing one others.done (shows now) (shows mid) (shows others.mid) passes.2 others.turned;
          end = elim others.end [
            | inl all ↦ inl (all.0, (lines_told (passed_line one) (passed_lines others.done) old between new before n fails sent told.1 outcome all.1.0, all.1.1))
            | inr stop ↦ inr (
              record {
                zone = stop.0.zone;
                rest = stop.0.rest;
                next = stop.0.next;
                fault = stop.0.fault;
                sent = stop.0.sent;
                lines = Appends-trans old between stop.0.sent (passed_line one) (passed_lines others.done) sent stop.0.lines;
                line = subst (λ (k : ℕ). IsRefusalWritten stop.0.sent new stop.0.fault outcome k fails) told.1 stop.0.line;
              },
              stop.1,
            )
          ];
        }

    -- a zone was not passed, or its line did not go out
    pub put_last : (failed : JobFault) → IsPassedBy a existing zone (shows now) (shows mid) first (Err failed) → ArePut shows a existing (zone ∷ zones) now mid first (Err failed)
    put_last failed (Ok line, passes, told) =
        let one = passes.0 in
        let whole = passes.3 ∙ sym (append-nil (passed_line one)) in
        record {
          done = one ∷ [];
          later = zones;
          passed = (passes.1, refl);
          mid = mid;
          turned = passes.2;
          end = inl (refl, (subst (λ (l : List ℕ). IsReported (Ok l) old between (Err failed) before n) whole told, λ ok. absurd cc));
        }
    put_last failed (Err why, unpassed, told) = record {
      done = [];
      later = zone ∷ zones;
      passed = refl;
      mid = now;
      turned = turned_none existing (shows now);
      end = inr (record { zone = zone; rest = zones; next = refl; fault = why; sent = old; lines = Appends-nil old; line = told }, unpassed);
    }

  -- what is done with some zones from one connection on leads from what was done before them to what is done with all
  abbrev pub Leads : List ZoneFileOf → C → Option (List ℕ) → ℕ → List ZoneFileOf → C → Option (List ℕ) → ℕ → Type 0
  Leads zones now old before all began old_first before_first =
      (after : C) (new : Option (List ℕ)) (fails : ℕ) (outcome : Result (Unit {0}) JobFault)
      → ArePut shows a existing zones now after (record { old = old; new = new; before = before; after = fails }) outcome
      → ArePut shows a existing all began after (record { old = old_first; new = new; before = before_first; after = fails }) outcome

  module _ (all : List ZoneFile) (i : ℕ) (zone : ZoneFile) (now mid began : C) (old between old_first : Option (List ℕ)) (before n before_first : ℕ) (lt : i < length all) (is : zone ≡ get_or all i zone)
      (leads : Leads (views (drop i all)) now old before (views all) began old_first before_first) where
    next_zone : views (drop i all) ≡ zone_file_view zone ∷ views (drop (i + 1) all)
    next_zone = ap views (drop_more all i zone lt) ∙ ap (λ (z : ZoneFile). zone_file_view z ∷ views (drop (i + 1) all)) (sym is)

    pub leads_more : IsPassedBy a existing (zone_file_view zone) (shows now) (shows mid) (record { old = old; new = between; before = before; after = n }) (Ok tt)
        → Leads (views (drop (i + 1) all)) mid between n (views all) began old_first before_first
    leads_more passed after new fails outcome others =
        leads after new fails outcome
        (subst (λ (zs : List ZoneFileOf). ArePut shows a existing zs now after (record { old = old; new = new; before = before; after = fails }) outcome) (sym next_zone)
        (put_more (zone_file_view zone) (views (drop (i + 1) all)) now mid old between before n after new fails outcome passed others))

    pub leads_last : (failed : JobFault) → IsPassedBy a existing (zone_file_view zone) (shows now) (shows mid) (record { old = old; new = between; before = before; after = n }) (Err failed)
        → ArePut shows a existing (views all) began mid (record { old = old_first; new = between; before = before_first; after = n }) (Err failed)
    leads_last failed passed =
        leads mid between n (Err failed)
        (subst (λ (zs : List ZoneFileOf). ArePut shows a existing zs now mid (record { old = old; new = between; before = before; after = n }) (Err failed)) (sym next_zone)
        (put_last (zone_file_view zone) (views (drop (i + 1) all)) now mid old between before n failed passed))

  pub leads_all : (all : List ZoneFile) (i : ℕ) (now began : C) (old old_first : Option (List ℕ)) (before before_first : ℕ) → length all ≤ i
      → Leads (views (drop i all)) now old before (views all) began old_first before_first
      → ArePut shows a existing (views all) began now (record { old = old_first; new = old; before = before_first; after = before }) (Ok tt)
  leads_all all i now began old old_first before before_first end leads =
      leads now old before (Ok tt)
      (subst (λ (zs : List ZoneFileOf). ArePut shows a existing zs now now (record { old = old; new = old; before = before; after = before }) (Ok tt)) (sym (ap views (drop_all i all end)))
      (put_none now old before))

-- ---- the input of the list

module _ {C H : Type 0} (a : Around H) (s : StoresOf C) (w : ImportList) (left : Option (List ℕ)) (fine failed : Type 0) (conn : Option C) (o : Writing) (outcome : Result (Unit {0}) JobFault) where
  -- it was read, and its zones were put
  pub list_put : (text : List ℕ) → Makes left limited (Ok text) → fine → TextImported a s w text conn o outcome
      → ListImported a s w (record { left = left; fine = fine; failed = failed }) conn o outcome
  list_put text read well (inl (why, given, line, none)) = inl (why, list_refused left fine failed text read well why given, line, none)
  list_put text read well (inr (zones, e, puts)) = inr (zones, list_read left fine failed text read well zones e, well, puts)

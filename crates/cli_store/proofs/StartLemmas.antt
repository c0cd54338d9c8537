-- The history of starts on one disk.
use Rattle.std.proofs.Common.{◌≡◌, ◌⊎◌, ◌∙◌, ℕ, Bool, List, [], ◌∷◌, ◌++◌, Option, Some, None, option_map, Result, Ok, Err, IfSome, ◌<◌, refl, sym, ap, subst, inl, inr, append-nil}
use Rattle.sqlite_trees.specs.Tree.{Trees}
use Rattle.sqlite.specs.State.{State as Shown, HasCleanDisk}
use Rattle.zone_core.specs.Zones.{ZoneOf}
use Rattle.dns_names.specs.Reading.{absolute_name}
use Rattle.dns_data.specs.declared.record.Record.{Record}
use Rattle.grant_policy.specs.declared.rule.Rule.{Rule}
use Rattle.office_model.specs.declared.request.Call.{Call}
use Rattle.office_model.specs.States.{Held, State}
use Rattle.office_model.specs.Tables.{Keeps, Kept, LeavesOr}
use Rattle.office_core.specs.Histories.{ruled, state_after_all}
use Rattle.store_faults.specs.declared.store_fault.StoreFault.{StoreFault}
use Rattle.office_store.specs.Holds.{HoldsState, LeavesStates, IsStateIn}
use Rattle.office_store.specs.Queries.{Asked}
use Rattle.office_wire.specs.Promises.{calls}
use Rattle.office_wire.specs.Lifetimes.{Lifetime, IsLeftBy, AreAcknowledged, IsHand, history as lived}
use Rattle.office_wire.proofs.CrashLemmas.{crashes_leave_one_more}
use Rattle.office_wire.proofs.LifetimeLemmas.{histories_are_one}
use Rattle.cli_core.specs.LineFaults.{Makes, of_names, of_store}
use Rattle.cli_core.specs.declared.job.BlameForm.{BlameForm}
use Rattle.cli_core.specs.declared.job.BlameForm.TheVariants.{Changes, Receipts}
use Rattle.cli_core.specs.declared.job.ZoneForm.{ZoneForm}
use Rattle.cli_core.specs.declared.refusal.Refusal.{Refusal}
use Rattle.cli_core.specs.declared.commands.import.ImportList.{ImportList}
use Rattle.cli_core.specs.declared.commands.serve.Service.{Service}
use Rattle.cli_core.specs.Inputs.{InputOf}
use Rattle.cli_core.specs.declared.job.Existing.{Existing}
use Rattle.cli_core.specs.declared.job.Existing.TheVariants.{Kept as Beside, Replaced}
use Rattle.cli_core.specs.declared.job.LogChoice.{LogChoice}
use Rattle.cli_core.specs.declared.job.Job.{Job}
use Rattle.cli_core.specs.declared.job.Job.TheVariants as job
use Rattle.cli_core.specs.declared.job.StoreJob.{StoreJob}
use Rattle.cli_core.specs.declared.job.StoreJob.TheVariants as store_job
use Rattle.cli_core.specs.declared.line_fault.JobFault.{JobFault}
use Rattle.cli_core.specs.declared.line_fault.LineFault.{LineFault}
use Rattle.wire_tcp.specs.Connections.{Visit, Moment, joined, standing_at, AreServed, AreServedFrom}
use Rattle.cli_store.specs.Export.{IsExported}
use Rattle.cli_store.specs.Import.{IsImported}
use Rattle.cli_store.specs.ImportList.{Passed, stayed, came, IsNotPassed, ArePut, ListImported, states_passed}
use Rattle.cli_store.specs.ZoneFiles.{ZoneFileOf, zone_files_read}
use Rattle.cli_store.specs.Program.{StoreJobEnds, JobEnds, WordsEnd, named, standard}
use Rattle.cli_store.specs.Puts.{put_into, with_put}
use Rattle.cli_store.specs.Remove.{IsRemoved}
use Rattle.cli_store.specs.Reports.{IsReported}
use Rattle.wire_tcp.specs.Limits.{Limits}
use Rattle.cli_store.specs.Serve.{TableAt, policy_read, most_of, parties_of, limits_by, asked_by, IsServiceTold, IsServedBy, BeginsBy, Serves}
use Rattle.cli_store.specs.StoreList.{IsListRead}
use Rattle.cli_store.specs.StoreLog.{IsLogged, IsLogRead}
use Rattle.cli_store.specs.BlameReceipts.{AreReceiptsRead, AreReceiptsTold, BlameEnds}
use Rattle.cli_store.specs.ZoneHistory.{blame_asked, blame_text, past_text, undo_text, ExportEnds, IsHistoryRead, IsToldOf}
use Rattle.cli_store.specs.Stores.{StoresOf, IsRead, IsUnopened, IsReached, IsUnreached, IsStored, IsGot, IsMigratedStore, stores_of}
use Rattle.cli_store.specs.Starts.{HasState, held, Deed, put, took, state_after_deeds, called_by, Setting, Start, IsStart, MayFollow, AreStarts, Course, deeds_of, IsNothing, IsZoneMade, IsZoneInHand, IsZoneRefused, IsZoneRemoved, IsRemovalRefused, deeds_in, AreZonesMade, AreNoneMade, IsUnserved, moment_of, IsServed, JobMakes, IsCourse, AreCourses, history, StartsHaveOneHistory}
use Rattle.cli_store.proofs.DeedLemmas.{after_more, called_are, called_more}
use Rattle.cli_store.proofs.DiskLemmas.{Settles, adopted_holds, made_holds, no_store, unmade, migrated, unmigrated, asked_still, left_still, stays_still, WasPut, put_made, put_refused, taken_out, removal_refused}
use Rattle.cli_store.proofs.ListPutLemmas.{unpassed_honest}

-- ---- a lifetime of a table

-- the state that a table held last, or the other one
module _ (l : Lifetime) (conn : Shown) (next : Trees) where
  found_after : (u : State) → l.after.other ≡ Some u → LeavesOr (LeavesStates conn) l.after.state l.after.other → HasCleanDisk conn → conn.may_leave next
      → (m : State) × IsLeftBy l m × IsStateIn next m
  found_after u other left clean may =
      elim ((subst (λ (o : Option State). LeavesOr (LeavesStates conn) l.after.state o) other left) clean next may)
      [ inl is ↦ (l.after.state, inl refl, is) | inr is ↦ (u, inr other, is) ]

  one_left : (l.after.other ≡ Some l.after.state) ⊎ ((u : State) × (l.after.other ≡ Some u)) → LeavesOr (LeavesStates conn) l.after.state l.after.other → HasCleanDisk conn → conn.may_leave next
      → (m : State) × IsLeftBy l m × IsStateIn next m
  one_left (inl settled) left clean may = found_after l.after.state settled left clean may
  one_left (inr more) left clean may = found_after more.0 more.1 left clean may

-- the calls of one lifetime, and what was in hand
one_hand : (l : Lifetime) (s m : State) (hands : List (List Call)) → AreAcknowledged s (l ∷ []) hands → m ≡ state_after_all s (lived (l ∷ []) hands)
    → (hand : List Call) × IsHand l.turns hand × (m ≡ state_after_all s (ruled l.rules (calls l.turns ++ hand)))
one_hand l s m [] are e = absurd are
one_hand l s m (hand ∷ []) are e = (hand, are.1, e ∙ ap (state_after_all s) (append-nil (ruled l.rules (calls l.turns ++ hand))))
one_hand l s m (hand ∷ more ∷ hands) are e = absurd are.2

-- as deeds
deeds_lead : (s : State) (rules : List Rule) (xs ys : List Call) → state_after_deeds s (called_by rules xs ++ called_by rules ys) ≡ state_after_all s (ruled rules (xs ++ ys))
deeds_lead s rules xs ys = ap (state_after_deeds s) (sym (called_more rules xs ys)) ∙ called_are s rules (xs ++ ys)

-- zones that came
zones_lead : (existing : Existing) (s : State) (done : List Passed) → state_after_deeds s (deeds_in existing done) ≡ states_passed existing s done
zones_lead existing s [] = refl
zones_lead existing s (stayed origin ∷ done) = zones_lead existing s done
zones_lead existing s (came zone ∷ done) = zones_lead existing (with_put existing s zone) done

-- and what was in hand after them
zones_lead_on : (existing : Existing) (s : State) (done : List Passed) (hand : List Deed) → state_after_deeds s (deeds_in existing done ++ hand) ≡ state_after_deeds (states_passed existing s done) hand
zones_lead_on existing s done hand = after_more s (deeds_in existing done) hand ∙ ap (λ (t : State). state_after_deeds t hand) (zones_lead existing s done)

-- ---- courses

abbrev nothing : Course
nothing = record { told = []; hand = [] }

is_nothing : IsNothing nothing
is_nothing = record { told = refl; hand = refl }

-- what came of a start, and the state after it
abbrev Comes : (Course → Type 0) → State → Trees → Type 0
Comes P s next = (c : Course) × P c × HasState next (state_after_deeds s (deeds_of c))

stays : (s : State) (next : Trees) → HasState next s → Comes IsNothing s next
stays s next has = (nothing, is_nothing, has)

comes_so : {P Q : Course → Type 0} (s : State) (next : Trees) → ((c : Course) → P c → Q c) → Comes P s next → Comes Q s next
comes_so s next f all = (all.0, f all.0 all.1, all.2)

module _ {A F C H P : Type 0} (w : Setting A F C H P) (law : (conn : C) → Settles (w.shows conn)) where
  module _ (s : State) (db next : Trees) (st : Start A F C) (is : IsStart w db st) (has : HasState db s) (may : MayFollow w.shows db st.left next) where
    -- no connection was made
    unread : st.left ≡ None → HasState next s
    unread e = subst (λ (d : Trees). HasState d s) (sym (subst (λ (l : Option C). MayFollow w.shows db l next) e may)) has

    -- one was handed back
    clean : (after : C) → st.left ≡ Some after → HasCleanDisk (w.shows after)
    clean after e = subst (λ (l : Option C). IfSome l (λ conn. HasCleanDisk (w.shows conn))) e is.clean

    follows : (after : C) → st.left ≡ Some after → (w.shows after).may_leave next
    follows after e = subst (λ (l : Option C). MayFollow w.shows db l next) e may

    module _ (path : List ℕ) where
      abbrev Finds : Bool → Type 0
      Finds = w.finds st.files path

      abbrev Refuses : StoreFault → Type 0
      Refuses = w.refuses st.files path

      abbrev Connects : C → Type 0
      Connects = w.connects st.files path

      unopened : (fault : StoreFault) → IsUnopened w.shows Finds Refuses Connects st.left fault → HasState next s
      unopened fault (inl none) = unread none.1
      unopened fault (inr (found, connected, (after, e, refused))) =
          no_store db (w.shows found) (is.found path found connected) (law found) (w.shows after) fault s next refused (clean after e) has (follows after e)

      -- a store that is asked for something
      got : {X : Type 0} (does : Shown → Shown → Result X StoreFault → Type 0) → ((now after : Shown) (r : Result X StoreFault) → does now after r → Asked now after) → (r : Result X StoreFault)
          → IsGot w.shows Finds Refuses Connects does st.left r → HasState next s
      got does asks (Ok x) (now, (found, connected, adopted), (after, e, done)) =
          let asked = asks (w.shows now) (w.shows after) (Ok x) done in
          let here = adopted_holds db (w.shows found) (is.found path found connected) (law found) (w.shows now) s adopted (asked.honest (clean after e)) has in
          asked_still (w.shows now) (w.shows after) s next asked here.1 (clean after e) (follows after e)
      got does asks (Err fault) (inl refused) = unopened fault refused
      got does asks (Err fault) (inr (now, (found, connected, adopted), (after, e, done))) =
          let asked = asks (w.shows now) (w.shows after) (Err fault) done in
          let here = adopted_holds db (w.shows found) (is.found path found connected) (law found) (w.shows now) s adopted (asked.honest (clean after e)) has in
          asked_still (w.shows now) (w.shows after) s next asked here.1 (clean after e) (follows after e)

      migrates : (r : Result ℕ StoreFault) → IsMigratedStore w.shows Finds Refuses Connects st.left r → HasState next s
      migrates (Ok zones) (found, connected, (after, e, made)) =
          migrated db (w.shows found) (is.found path found connected) (law found) (w.shows after) zones s next made (clean after e) has (follows after e)
      migrates (Err fault) (inl none) = unread none.1
      migrates (Err fault) (inr (found, connected, (after, e, refused))) =
          unmigrated db (w.shows found) (is.found path found connected) (law found) (w.shows after) fault s next refused (clean after e) has (follows after e)

      -- ---- a zone that is put

      reached : (existing : Existing) (now : C) → IsReached w.shows Connects existing now → HasCleanDisk (w.shows now) → HoldsState (w.shows now) s × LeavesStates (w.shows now) s s
      reached Beside now (found, connected, inl adopted) sure = adopted_holds db (w.shows found) (is.found path found connected) (law found) (w.shows now) s adopted sure has
      reached Beside now (found, connected, inr made) sure = made_holds db (w.shows found) (is.found path found connected) (law found) (w.shows now) s made has
      reached Replaced now (found, connected, adopted) sure = adopted_holds db (w.shows found) (is.found path found connected) (law found) (w.shows now) s adopted sure has

      unreached : (existing : Existing) (fault : StoreFault) → IsUnreached w.shows Finds Refuses Connects existing st.left fault → HasState next s
      unreached Beside fault (inl none) = unread none.1
      unreached Beside fault (inr (found, connected, (after, e, inl refused))) =
          no_store db (w.shows found) (is.found path found connected) (law found) (w.shows after) fault s next refused (clean after e) has (follows after e)
      unreached Beside fault (inr (found, connected, (after, e, inr refused))) =
          unmade db (w.shows found) (is.found path found connected) (law found) (w.shows after) fault s next refused (clean after e) has (follows after e)
      unreached Replaced fault refused = unopened fault refused

      stored : (existing : Existing) (zone : ZoneOf) → IsStored w.shows Finds Refuses Connects existing zone st.left (Ok tt)
          → (put_into existing s zone ≡ Ok zone) × HasState next (with_put existing s zone)
      stored existing zone (now, reaches, (after, e, puts)) =
          let here = reached existing now reaches (puts.0.honest (clean after e)) in
          put_made existing zone (w.shows now) (w.shows after) s next tt puts here.0 (clean after e) (follows after e)

      unstored : (existing : Existing) (zone : ZoneOf) (refusal : StoreFault) → IsStored w.shows Finds Refuses Connects existing zone st.left (Err refusal)
          → HasState next s ⊎ WasPut existing zone s refusal next
      unstored existing zone refusal (inl refused) = inl (unreached existing refusal refused)
      unstored existing zone refusal (inr (now, reaches, (after, e, puts))) =
          let here = reached existing now reaches (puts.0.honest (clean after e)) in
          put_refused existing zone (w.shows now) (w.shows after) s next refusal puts here (clean after e) (follows after e)

    abbrev Imports : List ℕ → Existing → Result (Unit {0}) JobFault → Course → Type 0
    Imports origin existing outcome c = IsZoneMade origin existing s st.input st.output outcome c ⊎ IsZoneRefused origin existing s st.input st.output outcome c

    -- nothing was put
    not_put : (origin : List ℕ) (existing : Existing) (outcome : Result (Unit {0}) JobFault) (fault : LineFault) → IsReported (Err fault) st.output.old st.output.new outcome st.output.before st.output.after
        → HasState next s → Comes (Imports origin existing outcome) s next
    not_put origin existing outcome fault line same = (nothing, inr (record { fault = fault; line = line; told = refl; hand = inl refl }), same)

    imported : (path origin : List ℕ) (existing : Existing) (outcome : Result (Unit {0}) JobFault) (made : Result (List ℕ) LineFault) (fine failed : Type 0)
        → IsImported w.shows st.input.left origin (w.finds st.files path) (w.refuses st.files path) (w.connects st.files path) existing st.left made fine failed
        → IsReported made st.output.old st.output.new outcome st.output.before st.output.after → Comes (Imports origin existing outcome) s next
    imported path origin existing outcome (Ok line) fine failed (zone, read, well, (puts, same)) line_is =
        let done = stored path existing zone puts in (
          record { told = put existing zone ∷ []; hand = [] },
          inl (record {
            zone = zone;
            read = read;
            taken = done.0;
            line = subst (λ (l : List ℕ). IsReported (Ok l) st.output.old st.output.new outcome st.output.before st.output.after) same line_is;
            told = refl;
            hand = refl;
          }),
          done.1,
        )
    imported path origin existing outcome (Err fault) fine failed (inl unmade) line_is = not_put origin existing outcome fault line_is (unread unmade.1)
    imported path origin existing outcome (Err fault) fine failed (inr (zone, read, well, inl none)) line_is = not_put origin existing outcome fault line_is (unread none.1)
    imported path origin existing outcome (Err fault) fine failed (inr (zone, read, well, inr (refusal, fault_is, puts))) line_is = elim (unstored path existing zone refusal puts) [
      | inl same ↦ not_put origin existing outcome fault line_is same
      | inr was ↦ (
        record { told = []; hand = put existing zone ∷ [] },
        inr (record {
          fault = fault;
          line = line_is;
          told = refl;
          hand = inr (record { zone = zone; read = read; taken = was.taken; refusal = refusal; failed = was.failed; fault_is = fault_is; hand_is = refl });
        }),
        was.has,
      )
    ]

    -- ---- a zone that is taken out

    abbrev Removals : List ℕ → Result (Unit {0}) JobFault → Course → Type 0
    Removals word outcome c = IsZoneRemoved word s st.output outcome c ⊎ IsRemovalRefused word s st.output outcome c

    -- nothing was taken out
    not_removed : (word : List ℕ) (outcome : Result (Unit {0}) JobFault) (fault : LineFault) → IsReported (Err fault) st.output.old st.output.new outcome st.output.before st.output.after
        → HasState next s → Comes (Removals word outcome) s next
    not_removed word outcome fault line same = (nothing, inr (record { fault = fault; line = line; told = refl; hand = inl refl }), same)

    removed : (path word : List ℕ) (outcome : Result (Unit {0}) JobFault) (made : Result (List ℕ) LineFault)
        → IsRemoved w.shows word (w.finds st.files path) (w.refuses st.files path) (w.connects st.files path) st.left made
        → IsReported made st.output.old st.output.new outcome st.output.before st.output.after → Comes (Removals word outcome) s next
    removed path word outcome (Ok line) (origin, read, (now, (found, connected, adopted), (after, e, takes))) line_is =
        let here = adopted_holds db (w.shows found) (is.found path found connected) (law found) (w.shows now) s adopted (takes.0.honest (clean after e)) has in
        let gone = taken_out origin (w.shows now) (w.shows after) s next line takes here.0 (clean after e) (follows after e) in (
          record { told = took origin ∷ []; hand = [] },
          inl (record {
            origin = origin;
            read = read;
            held = gone.0.0;
            there = gone.0.1;
            line = subst (λ (l : List ℕ). IsReported (Ok l) st.output.old st.output.new outcome st.output.before st.output.after) gone.0.2 line_is;
            told = refl;
            hand = refl;
          }),
          gone.1,
        )
    removed path word outcome (Err fault) (inl (given, none)) line_is = not_removed word outcome fault line_is (unread none)
    removed path word outcome (Err fault) (inr (origin, read, (refusal, fault_is, inl refused))) line_is = not_removed word outcome fault line_is (unopened path refusal refused)
    removed path word outcome (Err fault) (inr (origin, read, (refusal, fault_is, inr (now, (found, connected, adopted), (after, e, takes))))) line_is =
        let here = adopted_holds db (w.shows found) (is.found path found connected) (law found) (w.shows now) s adopted (takes.0.honest (clean after e)) has in
        elim (removal_refused origin (w.shows now) (w.shows after) s next refusal takes here (clean after e) (follows after e)) [
          | inl same ↦ not_removed word outcome fault line_is same
          | inr was ↦ (
            record { told = []; hand = took origin ∷ [] },
            inr (record {
              fault = fault;
              line = line_is;
              told = refl;
              hand = inr (record { origin = origin; read = read; held = was.there; there = was.is; refusal = refusal; failed = was.failed; fault_is = fault_is; hand_is = refl });
            }),
            was.has,
          )
        ]

    -- ---- a list of zones

    -- a zone that was not passed: nothing was put, or the zone in hand
    not_passed : (existing : Existing) (zone : ZoneFileOf) (mid after : C) (fault : LineFault) (t : State) → IsNotPassed (w.around st.around) existing zone (w.shows mid) (w.shows after) fault
        → HoldsState (w.shows mid) t × LeavesStates (w.shows mid) t t → HasCleanDisk (w.shows after) → (w.shows after).may_leave next
        → (hand : List Deed) × ((hand ≡ []) ⊎ IsZoneInHand zone.word existing t ((w.around st.around).file zone.path) fault hand) × HasState next (state_after_deeds t hand)
    not_passed existing zone mid after fault t (inl (refusal, failed, e, stays)) here sure may_be = ([], inl refl, stays_still (w.shows mid) (w.shows after) t next stays here.1 sure may_be)
    not_passed existing zone mid after fault t (inr (asked, inl (given, stays))) here sure may_be = ([], inl refl, stays_still (w.shows mid) (w.shows after) t next stays here.1 sure may_be)
    not_passed existing zone mid after fault t (inr (asked, inr (it, read, refusal, fault_is, puts))) here sure may_be =
        elim (put_refused existing it (w.shows mid) (w.shows after) t next refusal puts here sure may_be) [
          | inl same ↦ ([], inl refl, same)
          | inr was ↦ (
            put existing it ∷ [],
            inr (record { zone = it; read = read; taken = was.taken; refusal = refusal; failed = was.failed; fault_is = fault_is; hand_is = refl }),
            was.has,
          )
        ]

    abbrev Listing : Existing → List ZoneFileOf → Result (Unit {0}) JobFault → Course → Type 0
    Listing existing zones outcome c = AreZonesMade (w.around st.around) existing s zones st.output outcome c

    module _ (existing : Existing) (zones : List ZoneFileOf) (now after : C) (outcome : Result (Unit {0}) JobFault) (puts : ArePut w.shows (w.around st.around) existing zones now after st.output outcome)
        (sure : HasCleanDisk (w.shows after)) (may_be : (w.shows after).may_leave next) where
      mid_clean : HasCleanDisk (w.shows puts.mid)
      mid_clean = elim puts.end [
        | inl all ↦ subst (λ (c : C). HasCleanDisk (w.shows c)) all.0 sure
        | inr stop ↦ unpassed_honest (w.around st.around) existing stop.0.zone (w.shows puts.mid) (w.shows after) stop.0.fault stop.1 sure
      ]

      now_clean : HasCleanDisk (w.shows now)
      now_clean = puts.turned.honest mid_clean

      all_put : HoldsState (w.shows now) s × LeavesStates (w.shows now) s s → Comes (Listing existing zones outcome) s next
      all_put here =
          let t = states_passed existing s puts.done in
          let made = puts.turned.made mid_clean s here.0 in
          let left = puts.turned.left mid_clean s here.0 here.1 in
          elim puts.end [
            | inl all ↦ (
              record { told = deeds_in existing puts.done; hand = [] },
              record { done = puts.done; later = puts.later; passed = puts.passed; taken = made.0; told = refl; end = inl (all.1, refl) },
              subst (HasState next) (sym (zones_lead_on existing s puts.done []))
                  (left_still (w.shows puts.mid) t next left mid_clean (subst (λ (c : C). (w.shows c).may_leave next) all.0 may_be)),
            )
            | inr stop ↦
                let last = not_passed existing stop.0.zone puts.mid after stop.0.fault t stop.1 (made.1, left) sure may_be in (
                  record { told = deeds_in existing puts.done; hand = last.0 },
                  record { done = puts.done; later = puts.later; passed = puts.passed; taken = made.0; told = refl; end = inr (stop.0, last.1) },
                  subst (HasState next) (sym (zones_lead_on existing s puts.done last.0)) last.2,
                )
          ]

    abbrev Lists : ImportList → InputOf → Result (Unit {0}) JobFault → Course → Type 0
    Lists words list outcome c = AreNoneMade st.output outcome c ⊎ ((zones : List ZoneFileOf) × Makes list.left zone_files_read (Ok zones) × Listing words.existing zones outcome c)

    listed : (words : ImportList) (list : InputOf) (outcome : Result (Unit {0}) JobFault)
        → ListImported (w.around st.around) (stores_of w.shows (w.finds st.files) (w.refuses st.files) (w.connects st.files)) words list st.left st.output outcome → Comes (Lists words list outcome) s next
    listed words list outcome (inl (fault, given, line, none)) = (nothing, inl (is_nothing, (fault, line)), unread none)
    listed words list outcome (inr (zones, read, fine, inl (refusal, refused, line))) =
        (nothing, inl (is_nothing, (of_store refusal, line)), unreached words.store.now words.existing refusal refused)
    listed words list outcome (inr (zones, read, fine, inr (now, reaches, (after, e, puts)))) =
        let sure = now_clean words.existing zones now after outcome puts (clean after e) (follows after e) in
        comes_so s next (λ c all. inr (zones, read, all))
        (all_put words.existing zones now after outcome puts (clean after e) (follows after e) (reached words.store.now words.existing now reaches sure))

    -- ---- a service

    abbrev Serving : Service → Result (Unit {0}) JobFault → Course → Type 0
    Serving service outcome c = (IsUnserved st.output st.trace outcome × IsNothing c) ⊎ IsServed w.shows (w.around st.around) w.callers service s st.output st.trace outcome c

    not_served : (service : Service) (outcome : Result (Unit {0}) JobFault) → IsUnserved st.output st.trace outcome → HasState next s → Comes (Serving service outcome) s next
    not_served service outcome why same = (nothing, inl (why, is_nothing), same)

    -- how the table stood before a service and after it
    module _ (rules : List Rule) (limits : Limits) (visits : List Visit) (table table_after : TableAt C) (listener listener_after : H) (kept : Kept) where
      abbrev before_it : Moment (TableAt C) H
      before_it = moment_of table (record { state = s; other = Some s }) listener

      abbrev after_it : Moment (TableAt C) H
      after_it = moment_of table_after kept listener_after

      abbrev lifetime : Lifetime
      lifetime = record {
        rules = rules;
        turns = joined visits;
        before = standing_at (parties_of w.shows w.callers) before_it;
        after = standing_at (parties_of w.shows w.callers) after_it;
      }

      -- the calls that were answered, and what was in hand, lead to what is on the disk
      lived_so : AreServed (parties_of w.shows w.callers) rules limits visits before_it after_it → LeavesOr (LeavesStates (w.shows table_after.conn)) kept.state kept.other
          → HasCleanDisk (w.shows table_after.conn) → (w.shows table_after.conn).may_leave next
          → (hand : List Call) × IsHand (joined visits) hand × HasState next (state_after_deeds s (called_by rules (calls (joined visits)) ++ called_by rules hand))
      lived_so served leaves sure may_be =
          let l = lifetime in
          let one = crashes_leave_one_more rules l.before l.after (joined visits) refl served.run in
          let left = one_left l (w.shows table_after.conn) next (elim one [ inl settled ↦ inl settled | inr more ↦ inr (_, more.left) ]) leaves sure may_be in
          let all = histories_are_one s left.0 (l ∷ []) (refl, record { settled = refl; run = served.run }, left.0, left.1, refl) in
          let hand = one_hand l s left.0 all.0 all.1 all.2 in (
            hand.0,
            hand.1,
            held (subst (IsStateIn next) (hand.2 ∙ sym (deeds_lead s rules (calls (joined visits)) hand.0)) left.2),
          )

    module _ (service : Service) (rules : List Rule) (outcome : Result (Unit {0}) JobFault) (now after : C) (by : IsServedBy w.shows (w.around st.around) w.callers service rules now after st.output outcome st.trace)
        (here : HoldsState (w.shows now) s × LeavesStates (w.shows now) s s) (sure : HasCleanDisk (w.shows after)) (may_be : (w.shows after).may_leave next) where
      abbrev Told : Type 0
      Told = IsServiceTold (w.around st.around) service.listen.now (most_of service) w.callers.cut ((after ≡ now) × (st.trace.new ≡ st.trace.old) × (st.trace.after ≡ st.trace.before))
          (λ mid listener listener_after. HasCleanDisk (w.shows after) → AreServedFrom (parties_of w.shows w.callers) (asked_by service rules (w.callers.cut listener)) by.before listener by.left listener_after outcome
          (record { old = mid; new = st.output.new; before = st.output.before; after = st.output.after }) st.trace)
          st.output.old st.output.new outcome st.output.before st.output.after

      idle_still : after ≡ now → HasState next s
      idle_still e =
          left_still (w.shows now) s next here.1 (subst (λ (c : C). HasCleanDisk (w.shows c)) e sure) (subst (λ (c : C). (w.shows c).may_leave next) e may_be)

      abbrev first : Kept
      first = record { state = s; other = Some s }

      held_first : Keeps (HoldsState (w.shows by.before.conn)) (LeavesStates (w.shows by.before.conn)) first
      held_first = subst (λ (c : C). HoldsState (w.shows c) s × LeavesStates (w.shows c) s s) (sym by.before_is) here

      left_sure : HasCleanDisk (w.shows by.left.conn)
      left_sure = subst (λ (c : C). HasCleanDisk (w.shows c)) (sym by.left_is) sure

      left_may : (w.shows by.left.conn).may_leave next
      left_may = subst (λ (c : C). (w.shows c).may_leave next) (sym by.left_is) may_be

      told : Makes ((w.around st.around).file service.policy.now) policy_read (Ok rules) → Told → Comes (Serving service outcome) s next
      told read (inl (fault, why, wrote, idle)) = not_served service outcome ((idle.1, idle.2), inl (fault, wrote)) (idle_still idle.0)
      told read (inr (listener, address, heard, inl (e, front, more, idle))) =
          not_served service outcome ((idle.1, idle.2), inr (address, e, front, more)) (idle_still idle.0)
      told read (inr (listener, address, heard, inr (mid, line, reported, listener_after, served))) =
          let all = served sure first held_first in
          let limits = limits_by service in
          let ends = lived_so rules limits all.0 by.before by.left listener listener_after all.1 all.3 all.2.1 left_sure left_may in (
            record { told = called_by rules (calls (joined all.0)); hand = called_by rules ends.0 },
            inr (record {
              rules = rules;
              read = read;
              listener = listener;
              address = address;
              heard = heard;
              mid = mid;
              line = line;
              table = by.before;
              table_after = by.left;
              listener_after = listener_after;
              kept = all.1;
              visits = all.0;
              served = all.3;
              reported = all.4;
              traced = all.5;
              told = refl;
              hand = ends.0;
              in_hand = ends.1;
              hand_is = refl;
            }),
            ends.2,
          )

    begins : (service : Service) (rules : List Rule) (outcome : Result (Unit {0}) JobFault) → Makes ((w.around st.around).file service.policy.now) policy_read (Ok rules)
        → BeginsBy (w.around st.around) w.callers (stores_of w.shows (w.finds st.files) (w.refuses st.files) (w.connects st.files)) service rules st.left st.output outcome st.trace
        → Comes (Serving service outcome) s next
    begins service rules outcome read (inl (refusal, refused, wrote, kept, fine)) =
        not_served service outcome ((kept, fine), inl (of_store refusal, wrote)) (unopened service.store.now refusal refused)
    begins service rules outcome read (inr (now, (found, connected, adopted), (after, e, by))) =
        let here = adopted_holds db (w.shows found) (is.found service.store.now found connected) (law found) (w.shows now) s adopted (by.honest (clean after e)) has in
        told service rules outcome now after by here (clean after e) (follows after e) read by.told

    serves : (service : Service) (outcome : Result (Unit {0}) JobFault)
        → Serves (w.around st.around) w.callers (stores_of w.shows (w.finds st.files) (w.refuses st.files) (w.connects st.files)) service st.left st.output outcome st.trace
        → Comes (Serving service outcome) s next
    serves service outcome (inl (fault, given, wrote, none, kept, fine)) = not_served service outcome ((kept, fine), inl (fault, wrote)) (unread none)
    serves service outcome (inr (rules, read, begun)) = begins service rules outcome read begun

    -- ---- the other commands

    exported : (path word : List ℕ) (made : Result (List (List ℕ) × List Record) LineFault)
        → IsExported w.shows (λ (records : List Record). records) word (w.finds st.files path) (w.refuses st.files path) (w.connects st.files path) st.left made → HasState next s
    exported path word (Ok found) (origin, holds) = got path (IsRead (λ (records : List Record). records) found.0) (λ now after r does. does.0.0) (Ok found.1) holds
    exported path word (Err fault) (inl (given, none)) = unread none
    exported path word (Err fault) (inr (origin, e, (refusal, fault_is, holds))) =
        got path (IsRead (λ (records : List Record). records) origin) (λ now after r does. does.0.0) (Err refusal) holds

    logged : (path word : List ℕ) (choice : LogChoice) (made : Result (List ℕ) LineFault)
        → IsLogged w.shows word choice (w.finds st.files path) (w.refuses st.files path) (w.connects st.files path) st.left made → HasState next s
    logged path word choice (Ok text) (asked, e, (log, holds, text_is)) = got path (IsLogRead asked.origin) (λ now after r does. does.0.0) (Ok log) holds
    logged path word choice (Err fault) (inl (given, none)) = unread none
    logged path word choice (Err fault) (inr (asked, e, inl (none, (log, holds)))) = got path (IsLogRead asked.origin) (λ now after r does. does.0.0) (Ok log) holds
    logged path word choice (Err fault) (inr (asked, e, inr (refusal, fault_is, holds))) = got path (IsLogRead asked.origin) (λ now after r does. does.0.0) (Err refusal) holds

    told_of : {A : Type 0} (path : List ℕ) (words : Result A Refusal) (origin : A → List (List ℕ)) (answer : A → Held → Result (List ℕ) Refusal) (made : Result (List ℕ) LineFault)
        → IsToldOf w.shows words origin answer (w.finds st.files path) (w.refuses st.files path) (w.connects st.files path) st.left made → HasState next s
    told_of path words origin answer (Ok text) (asked, e, (known, holds, text_is)) = got path (IsHistoryRead (origin asked)) (λ now after r does. does.0.0) (Ok known) holds
    told_of path words origin answer (Err fault) (inl (given, none)) = unread none
    told_of path words origin answer (Err fault) (inr (asked, e, inl (known, holds, none))) = got path (IsHistoryRead (origin asked)) (λ now after r does. does.0.0) (Ok known) holds
    told_of path words origin answer (Err fault) (inr (asked, e, inr (refusal, fault_is, holds))) = got path (IsHistoryRead (origin asked)) (λ now after r does. does.0.0) (Err refusal) holds

    receipts_told : (path word : List ℕ) (name : Option (List ℕ)) (made : Result (List ℕ) LineFault)
        → AreReceiptsTold w.shows word name (w.finds st.files path) (w.refuses st.files path) (w.connects st.files path) st.left made → HasState next s
    receipts_told path word name (Ok text) (asked, e, (read, holds, text_is)) = got path (AreReceiptsRead asked.origin) (λ now after r does. does.0.0) (Ok read) holds
    receipts_told path word name (Err fault) (inl (given, none)) = unread none
    receipts_told path word name (Err fault) (inr (asked, e, inl (none, (read, holds)))) = got path (AreReceiptsRead asked.origin) (λ now after r does. does.0.0) (Ok read) holds
    receipts_told path word name (Err fault) (inr (asked, e, inr (refusal, fault_is, holds))) = got path (AreReceiptsRead asked.origin) (λ now after r does. does.0.0) (Err refusal) holds

    blamed_by : (path word : List ℕ) (name : Option (List ℕ)) (form : BlameForm) (old new : Option (List ℕ)) (result : Result (Unit {0}) JobFault) (writes writes_after : ℕ)
        → BlameEnds (stores_of w.shows (w.finds st.files) (w.refuses st.files) (w.connects st.files)) path word name form st.left old new result writes writes_after → HasState next s
    blamed_by path word name Changes old new result writes writes_after (made, is_made, told) =
        told_of path (blame_asked word name) (λ asked. asked.origin) (λ asked held. Ok (blame_text asked held)) made is_made
    blamed_by path word name Receipts old new result writes writes_after (made, is_made, told) = receipts_told path word name made is_made

    exported_by : (path word : List ℕ) (at : Option ℕ) (form : ZoneForm) (old new : Option (List ℕ)) (result : Result (Unit {0}) JobFault) (writes writes_after : ℕ)
        → ExportEnds (stores_of w.shows (w.finds st.files) (w.refuses st.files) (w.connects st.files)) path word at form st.left old new result writes writes_after → HasState next s
    exported_by path word None form old new result writes writes_after (written, (made, is_made, told)) = exported path word made is_made
    exported_by path word (Some number) form old new result writes writes_after (made, is_made, told) =
        told_of path (of_names (absolute_name word)) (λ origin. origin) (past_text form number) made is_made

    -- ---- a start

    abbrev Stores : StoresOf C
    Stores = stores_of w.shows (w.finds st.files) (w.refuses st.files) (w.connects st.files)

    abbrev Makings : Job → ℕ → Course → Type 0
    Makings asked status c = JobMakes w.shows (w.around st.around) w.callers s st.input st.output st.trace asked status c

    stored_job : (asked : StoreJob) (status : ℕ) → StoreJobEnds (w.around st.around) w.callers Stores st.input st.output st.trace asked st.left status → Comes (Makings (job.Store asked) status) s next
    stored_job (store_job.Import words) status (idle, (outcome, (written, (made, is_made, told)), status_is)) =
        comes_so s next (λ c all. (outcome, all, status_is))
        (imported words.zone.store.now words.zone.origin.now words.existing outcome made (st.input.after ≡ st.input.before) (st.input.before < st.input.after) is_made told)
    stored_job (store_job.ImportList words) status (idle, inl (apart, unheard, (outcome, ends, status_is))) =
        comes_so s next (λ c all. inl (apart, unheard, (outcome, all, status_is))) (listed words (named (w.around st.around) words.list.now) outcome ends)
    stored_job (store_job.ImportList words) status (idle, inr (same, (outcome, ends, status_is))) =
        comes_so s next (λ c all. inr (same, (outcome, all, status_is))) (listed words (standard st.input) outcome ends)
    stored_job (store_job.Export words) status (idle, unread, (outcome, ends, status_is)) =
        stays s next (exported_by words.zone.store.now words.zone.origin.now words.at words.form st.output.old st.output.new outcome st.output.before st.output.after ends)
    stored_job (store_job.Zones words) status (idle, unread, (outcome, (r, is_got, told), status_is)) =
        stays s next (got words.store.now IsListRead (λ now after r does. does.0.0) r is_got)
    stored_job (store_job.Log words) status (idle, unread, (outcome, (made, is_made, told), status_is)) =
        stays s next (logged words.zone.store.now words.zone.origin.now words.choice made is_made)
    stored_job (store_job.Blame words) status (idle, unread, (outcome, ends, status_is)) =
        stays s next (blamed_by words.zone.store.now words.zone.origin.now (option_map (λ n. n.now) words.name) words.form st.output.old st.output.new outcome st.output.before st.output.after ends)
    stored_job (store_job.Undo words) status (idle, unread, (outcome, (made, is_made, told), status_is)) =
        stays s next (told_of words.zone.store.now (of_names (absolute_name words.zone.origin.now)) (λ origin. origin) (undo_text words.first words.last) made is_made)
    stored_job (store_job.Migrate words) status (idle, unread, (outcome, (written, (made, is_made, told)), status_is)) = stays s next (migrates words.store.now made is_made)
    stored_job (store_job.Remove words) status (idle, unread, (outcome, (written, (made, is_made, told)), status_is)) =
        comes_so s next (λ c all. (outcome, all, status_is)) (removed words.zone.store.now words.zone.origin.now outcome made is_made told)
    stored_job (store_job.Serve service) status (unread, (outcome, is_served, status_is)) = comes_so s next (λ c all. (outcome, all, status_is)) (serves service outcome is_served)

    any_job : (asked : Job) (status : ℕ) → JobEnds (w.around st.around) w.callers Stores st.input st.output st.trace asked st.left status → Comes (Makings asked status) s next
    any_job (job.Text text) status (alone, ended) = stays s next (unread alone.0)
    any_job (job.Store asked) status ended = stored_job asked status ended

    words : WordsEnd (w.around st.around) w.callers Stores st.input st.output st.trace st.words st.left st.status → Comes (IsCourse w s st) s next
    words (inl (asked, fine, job_is, ended)) = comes_so s next (λ c all. inl (asked, job_is, all)) (any_job asked st.status ended)
    words (inr (refused, misuse, ended, alone, unheard)) = comes_so s next (λ c all. inr (refused, misuse, all)) (stays s next (unread alone.0))

  -- ---- many

  all_made : (starts : List (Start A F C)) (s : State) (db end : Trees) → HasState db s → AreStarts w db starts end
      → (courses : List Course) × AreCourses w s starts courses × HasState end (state_after_deeds s (history courses))
  all_made [] s db end has are = ([], tt, subst (λ (d : Trees). HasState d s) (sym are) has)
  all_made (st ∷ later) s db end has (is, next, may, rest) =
      let one = words s db next st is has may is.ended in
      let more = all_made later (state_after_deeds s (deeds_of one.0)) next end one.2 rest in
      (one.0 ∷ more.0, (one.1, more.1), subst (HasState end) (sym (after_more s (deeds_of one.0) (history more.0))) more.2)

  pub starts_have_one_history : StartsHaveOneHistory w
  starts_have_one_history s db end starts has are = all_made starts s db end has are

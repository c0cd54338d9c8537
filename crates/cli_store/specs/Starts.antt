-- Starts of the program on one disk, one after the other, whatever their words ask for. Each finds what the one before it left there,
-- whether that ended or was cut off by a crash: a start that a crash cuts off is one whose disk fails from some call on, also while the
-- store opens.
use Rattle.std.specs.Prelude.{◌≡◌, ◌≢◌, ◌⊎◌, ◌<◌, ℕ, Bool, List, [], ◌∷◌, ◌++◌, map, pos, Option, Some, None, IfSome, IsTrue, Result, Ok, Err}
use Rattle.std.specs.Io.KnownBytes.{Appends}
use Rattle.std.specs.List.{flat_map}
use Rattle.std.specs.declared.net.socket_addr.SocketAddr.{SocketAddr}
use Rattle.sqlite_trees.specs.Objects.{catalog_tree}
use Rattle.sqlite_trees.specs.Tree.{Trees}
use Rattle.sqlite.specs.Effect.{IsDatabase}
use Rattle.sqlite.specs.State.{State as Shown, HasCleanDisk}
use Rattle.dns_names.specs.Reading.{absolute_name}
use Rattle.zone_core.specs.Zones.{ZoneOf, serial_of}
use Rattle.grant_policy.specs.declared.rule.Rule.{Rule}
use Rattle.office_model.specs.declared.receipt.Receipt.{Receipt}
use Rattle.office_model.specs.declared.request.Call.{Call}
use Rattle.office_model.specs.States.{Held, State, zone_held}
use Rattle.office_model.specs.Tables.{Kept}
use Rattle.office_core.specs.Runs.{turn}
use Rattle.office_core.specs.Histories.{RuledCall, IsUpdateUnder, ruled}
use Rattle.store_sql.specs.Rows.{RowsOf}
use Rattle.store_sql.specs.Holds.{AreRows, SameRows}
use Rattle.store_sql.specs.Tables.{no_schema}
use Rattle.store_rows.specs.Batches.{nothing_held}
use Rattle.store_rows.specs.Contents.{ContentOf, Means, rows_of}
use Rattle.store_rows.specs.Removals.{without_zone}
use Rattle.store_faults.specs.StoreFaults.{IsFailure}
use Rattle.store_faults.specs.declared.store_fault.StoreFault.{StoreFault}
use Rattle.office_store.specs.Holds.{IsStateIn}
use Rattle.office_store.specs.MigratedContents.{migrated_content}
use Rattle.office_store.specs.OldZones.{IsOldContent}
use Rattle.office_wire.specs.Promises.{calls}
use Rattle.office_wire.specs.Lifetimes.{IsHand}
use Rattle.cli_core.specs.Device.{AppendsFront}
use Rattle.cli_core.specs.Jobs.{asks}
use Rattle.cli_core.specs.LineFaults.{Makes, of_names, of_store}
use Rattle.cli_core.specs.Misuse.{IsReported as IsMisuse}
use Rattle.cli_core.specs.Replies.{IsRefusalWritten}
use Rattle.cli_core.specs.Words.{job_of}
use Rattle.cli_core.specs.declared.commands.serve.Service.{Service}
use Rattle.cli_core.specs.declared.job.Existing.{Existing}
use Rattle.cli_core.specs.declared.job.Existing.TheVariants.{Kept as Beside}
use Rattle.cli_core.specs.declared.job.Job.{Job}
use Rattle.cli_core.specs.declared.job.Job.TheVariants as job
use Rattle.cli_core.specs.declared.job.StoreJob.TheVariants as store_job
use Rattle.cli_core.specs.declared.line_fault.JobFault.{JobFault}
use Rattle.cli_core.specs.declared.line_fault.JobFault.TheVariants.{WriteFailed}
use Rattle.cli_core.specs.declared.line_fault.LineFault.{LineFault}
use Rattle.cli_core.specs.declared.words.WordsFault.{WordsFault}
use Rattle.cli_text.specs.Canon.{zone_read}
use Rattle.wire_tcp.specs.Connections.{Visit, Moment, Writing, joined, ends, AreServed, AreReported, AreTraced}
use Rattle.cli_store.specs.Around.{Around, Callers}
use Rattle.cli_store.specs.Import.{imported_line}
use Rattle.cli_store.specs.ImportList.{Passed, stayed, came, ArePassed, AreAllTold, IsStopTold, TakesAll, states_passed}
use Rattle.cli_store.specs.Program.{Reading, Ends, IsIdle, OfInput, WordsEnd}
use Rattle.cli_store.specs.Puts.{put_into, with_put}
use Rattle.cli_store.specs.Remove.{removed_line}
use Rattle.cli_store.specs.Reports.{IsReported}
use Rattle.cli_store.specs.Serve.{TableAt, policy_read, most_of, listening_line, IsHeard, limits_by, parties_of}
use Rattle.cli_store.specs.Stores.{stores_of}
use Rattle.cli_store.specs.ZoneFiles.{ZoneFileOf, zone_files_read}

-- ---- what is on the disk

-- it lists no table
abbrev pub IsBare : Trees → Type 0
IsBare db = db catalog_tree ≡ []

-- it has these rows, which are this content of version 1
pub record HasOldRows (db : Trees) (content : ContentOf) (rows : RowsOf) : Type 0 where
  pub is : IsOldContent content
  pub same : SameRows (rows_of (pos 1) content) rows
  pub here : AreRows db rows

-- It has rows of version 1, and a content that they are is this state once it is migrated, in whatever order they are taken.
pub record IsOldStateIn (db : Trees) (s : State) : Type 0 where
  pub content : ContentOf
  pub rows : RowsOf
  pub has : HasOldRows db content rows
  pub each : (content : ContentOf) (rows : RowsOf) → HasOldRows db content rows → Means (migrated_content content) s

-- The disk has a state: it is in the tables; or there are no tables, and nothing is held; or it is the one that a migration makes of what
-- is there.
pub data HasState (db : Trees) (s : State) : Type 0 where
  held : IsStateIn db s → HasState db s
  none : IsBare db → s ≡ nothing_held → HasState db s
  old : IsOldStateIn db s → HasState db s

-- The connection is open and shows what is on the disk, with nothing under way; and tables that have rows are listed.
pub record Finds (db : Trees) (conn : Shown) : Type 0 where
  pub up : IsTrue conn.is_open
  pub shown : conn.now.trees ≡ db
  pub settled : conn.committed ≡ conn.now
  pub sound : IsDatabase conn.now
  pub listed : (rows : RowsOf) → AreRows db rows → rows.versions ≢ [] → conn.now.schema ≢ no_schema

-- ---- the history of a store

-- a call that was made, by the rules of its time; a zone that was put into the store; or the zone of an origin that was taken out of it
pub data Deed : Type 0 where
  called : RuledCall → Deed
  put : Existing → ZoneOf → Deed
  took : List (List ℕ) → Deed

-- The state after it. A zone that is imported begins with no changes, and one that is replaced gets one; one that is taken out goes with its
-- changes; receipts stay.
abbrev pub state_after_deed : State → Deed → State
state_after_deed s (called c) = (turn c.rules s c.call).after
state_after_deed s (put existing zone) = with_put existing s zone
state_after_deed s (took origin) = without_zone s origin

abbrev pub state_after_deeds : State → List Deed → State
state_after_deeds s [] = s
state_after_deeds s (deed ∷ deeds) = state_after_deeds (state_after_deed s deed) deeds

-- calls that are answered by one policy
abbrev pub called_by : List Rule → List Call → List Deed
called_by rules calls = map called (ruled rules calls)

-- Whatever is done later: an update that was answered has a receipt, which is never lost or changed.
pub record DeedsKeepReceipts : Type 0 where
  pub given : (s : State) (caller id : List ℕ) (c : RuledCall) (later : List Deed) → IsUpdateUnder caller id c
      → (kept : Receipt) × ((state_after_deeds s (called c ∷ later)).receipts caller id ≡ Some kept)
  pub kept : (s : State) (caller id : List ℕ) (kept : Receipt) (later : List Deed) → s.receipts caller id ≡ Some kept
      → (state_after_deeds s later).receipts caller id ≡ Some kept

-- Of the updates of a caller under one identifier only the first changes anything, whatever is called, imported, replaced and taken out
-- before, between and after, and by whatever rules.
abbrev pub DeedsAreMadeOnce : Type 0
DeedsAreMadeOnce =
    (s : State) (caller id : List ℕ) (before between : List Deed) (first again : RuledCall) → IsUpdateUnder caller id first → IsUpdateUnder caller id again
    → state_after_deeds s (before ++ called first ∷ (between ++ called again ∷ [])) ≡ state_after_deeds s (before ++ called first ∷ between)

-- A zone that is imported where one of its origin was taken out begins anew: with its records, and no changes.
abbrev pub ZonesBeginAnew : Type 0
ZonesBeginAnew =
    (s : State) (zone : ZoneOf)
    → (state_after_deeds s (took zone.origin ∷ put Beside zone ∷ [])).zones zone.origin ≡ Some (record { records = zone.records; changes = [] })

-- ---- a start

-- What the program is given: surroundings, files of stores that show something once they are connected to, and callers.
pub record Setting (A F C H P : Type 0) : Type 1 where
  pub around : A → Around H
  pub callers : Callers H P
  pub shows : C → Shown
  pub finds : F → List ℕ → Bool → Type 0
  pub refuses : F → List ℕ → StoreFault → Type 0
  pub connects : F → List ℕ → C → Type 0

-- A start: its surroundings, its files, its streams, its words, the connection to the store that it handed back, if it made one, and its
-- status.
pub record Start (A F C : Type 0) : Type 0 where
  pub around : A
  pub files : F
  pub input : Reading
  pub output : Writing
  pub trace : Writing
  pub words : List (List ℕ)
  pub left : Option C
  pub status : ℕ

-- Its words ended as `do_words` says. Each connection that its files make shows what is on the disk, which returned what was written.
pub record IsStart {A F C H P : Type 0} (w : Setting A F C H P) (db : Trees) (st : Start A F C) : Type 0 where
  pub ended : WordsEnd (w.around st.around) w.callers (stores_of w.shows (w.finds st.files) (w.refuses st.files) (w.connects st.files)) st.input st.output st.trace st.words st.left st.status
  pub found : (path : List ℕ) (conn : C) → w.connects st.files path conn → Finds db (w.shows conn)
  pub clean : IfSome st.left (λ conn. HasCleanDisk (w.shows conn))

-- what is on the disk after it: what an open after a crash may find; and what was there, if it made no connection
abbrev pub MayFollow : {C : Type 0} → (C → Shown) → Trees → Option C → Trees → Type 0
MayFollow shows db None next = next ≡ db
MayFollow shows db (Some conn) next = (shows conn).may_leave next

-- starts, one after the other, from what the first finds on the disk to what the last leaves there
abbrev pub AreStarts : {A F C H P : Type 0} → Setting A F C H P → Trees → List (Start A F C) → Trees → Type 0
AreStarts w db [] end = end ≡ db
AreStarts w db (st ∷ later) end = IsStart w db st × (next : Trees) × MayFollow w.shows db st.left next × AreStarts w next later end

-- ---- what came of a start

-- what it made and told, and what was made at its end though nobody was told
pub record Course : Type 0 where
  pub told : List Deed
  pub hand : List Deed

abbrev pub deeds_of : Course → List Deed
deeds_of c = c.told ++ c.hand

-- nothing was made
pub record IsNothing (c : Course) : Type 0 where
  pub told : c.told ≡ []
  pub hand : c.hand ≡ []

-- An import made the zone that was read, which the store could take, and its line was written, if the writer did not fail.
pub record IsZoneMade (origin : List ℕ) (existing : Existing) (s : State) (i : Reading) (o : Writing) (outcome : Result (Unit {0}) JobFault) (c : Course) : Type 0 where
  pub zone : ZoneOf
  pub read : Makes i.left (zone_read origin) (Ok zone)
  pub taken : put_into existing s zone ≡ Ok zone
  pub line : IsReported (Ok (imported_line zone)) o.old o.new outcome o.before o.after
  pub told : c.told ≡ put existing zone ∷ []
  pub hand : c.hand ≡ []

-- The zone that was read was made, which the store could take, though a failure was told.
pub record IsZoneInHand (origin : List ℕ) (existing : Existing) (s : State) (left : Option (List ℕ)) (fault : LineFault) (hand : List Deed) : Type 0 where
  pub zone : ZoneOf
  pub read : Makes left (zone_read origin) (Ok zone)
  pub taken : put_into existing s zone ≡ Ok zone
  pub refusal : StoreFault
  pub failed : IsFailure refusal
  pub fault_is : fault ≡ of_store refusal
  pub hand_is : hand ≡ put existing zone ∷ []

-- An import was refused, and nothing was made, or the zone in hand, where the store failed.
pub record IsZoneRefused (origin : List ℕ) (existing : Existing) (s : State) (i : Reading) (o : Writing) (outcome : Result (Unit {0}) JobFault) (c : Course) : Type 0 where
  pub fault : LineFault
  pub line : IsReported (Err fault) o.old o.new outcome o.before o.after
  pub told : c.told ≡ []
  pub hand : (c.hand ≡ []) ⊎ IsZoneInHand origin existing s i.left fault c.hand

-- A removal took out the zone that was held of the origin, and its line was written, with the serial that it had, if the writer did not
-- fail.
pub record IsZoneRemoved (word : List ℕ) (s : State) (o : Writing) (outcome : Result (Unit {0}) JobFault) (c : Course) : Type 0 where
  pub origin : List (List ℕ)
  pub read : of_names (absolute_name word) ≡ Ok origin
  pub held : Held
  pub there : s.zones origin ≡ Some held
  pub line : IsReported (Ok (removed_line origin (serial_of (zone_held origin held)))) o.old o.new outcome o.before o.after
  pub told : c.told ≡ took origin ∷ []
  pub hand : c.hand ≡ []

-- The zone that was held of the origin was taken out, though a failure was told.
pub record IsRemovalInHand (word : List ℕ) (s : State) (fault : LineFault) (hand : List Deed) : Type 0 where
  pub origin : List (List ℕ)
  pub read : of_names (absolute_name word) ≡ Ok origin
  pub held : Held
  pub there : s.zones origin ≡ Some held
  pub refusal : StoreFault
  pub failed : IsFailure refusal
  pub fault_is : fault ≡ of_store refusal
  pub hand_is : hand ≡ took origin ∷ []

-- A removal was refused, and nothing was taken out, or the zone in hand, where the store failed.
pub record IsRemovalRefused (word : List ℕ) (s : State) (o : Writing) (outcome : Result (Unit {0}) JobFault) (c : Course) : Type 0 where
  pub fault : LineFault
  pub line : IsReported (Err fault) o.old o.new outcome o.before o.after
  pub told : c.told ≡ []
  pub hand : (c.hand ≡ []) ⊎ IsRemovalInHand word s fault c.hand

-- the zones that came, as deeds
abbrev pub deeds_in : Existing → List Passed → List Deed
deeds_in existing [] = []
deeds_in existing (stayed origin ∷ done) = deeds_in existing done
deeds_in existing (came zone ∷ done) = put existing zone ∷ deeds_in existing done

-- An import of a list passed the first zones, each of which the store could take at its turn, and made those that came. Either all of them
-- were told; or the next zone was refused, which is told, and nothing more was made, or the zone in hand, where the store failed.
pub record AreZonesMade {H : Type 0} (a : Around H) (existing : Existing) (s : State) (zones : List ZoneFileOf) (o : Writing) (outcome : Result (Unit {0}) JobFault) (c : Course) : Type 0 where
  pub done : List Passed
  pub later : List ZoneFileOf
  pub passed : ArePassed a existing zones done later
  pub taken : TakesAll existing s done
  pub told : c.told ≡ deeds_in existing done
  pub end : (AreAllTold done later o outcome × (c.hand ≡ []))
      ⊎ ((stop : IsStopTold done later o outcome)
      × ((c.hand ≡ []) ⊎ IsZoneInHand stop.zone.word existing (states_passed existing s done) (a.file stop.zone.path) stop.fault c.hand))

-- No zone of a list was put: the line of a refusal was written, of the list or of the store.
abbrev pub AreNoneMade : Writing → Result (Unit {0}) JobFault → Course → Type 0
AreNoneMade o outcome c = IsNothing c × ((fault : LineFault) × IsRefusalWritten o.old o.new fault outcome o.before o.after)

-- No connection was served: a refusal was written in the place of the line of the address, or that line did not go out whole.
abbrev pub IsUnserved : Writing → Writing → Result (Unit {0}) JobFault → Type 0
IsUnserved o t outcome =
    IsIdle t × (((fault : LineFault) × IsRefusalWritten o.old o.new fault outcome o.before o.after)
    ⊎ ((address : SocketAddr) × (outcome ≡ Err WriteFailed) × AppendsFront o.old o.new (listening_line address) × (o.before < o.after)))

-- the moment of a table and a listener
abbrev pub moment_of : {C H : Type 0} → TableAt C → Kept → H → Moment (TableAt C) H
moment_of table kept listener = record { table = table; kept = kept; listener = listener }

-- The policy was read, and after the line of the address at which a listener was had the connections of its callers were served, from the
-- state that was on the disk. What was made and told is the calls of their turns, and one more may have been made, which was answered
-- SERVFAIL.
pub record IsServed {C H P : Type 0} (shows : C → Shown) (a : Around H) (p : Callers H P) (service : Service) (s : State) (o t : Writing) (outcome : Result (Unit {0}) JobFault) (c : Course) : Type 0 where
  pub rules : List Rule
  pub read : Makes (a.file service.policy.now) policy_read (Ok rules)
  pub listener : H
  pub address : SocketAddr
  pub heard : IsHeard a service.listen.now listener address
  pub mid : Option (List ℕ)
  pub line : Appends o.old mid (listening_line address)
  pub table : TableAt C
  pub table_after : TableAt C
  pub listener_after : H
  pub kept : Kept
  pub visits : List Visit
  pub served : AreServed (parties_of shows p) rules (limits_by service) visits (moment_of table (record { state = s; other = Some s }) listener) (moment_of table_after kept listener_after)
  pub reported : AreReported (p.cut listener) (most_of service) (ends visits) mid o.new outcome o.before o.after
  pub traced : AreTraced visits t
  pub told : c.told ≡ called_by rules (calls (joined visits))
  pub hand : List Call
  pub in_hand : IsHand (joined visits) hand
  pub hand_is : c.hand ≡ called_by rules hand

-- What is around, who calls, what connections show, the state on the disk, the streams, the job, its status, and what came of it: only an
-- import, of a zone or of a list, a removal and a service make anything.
abbrev pub JobMakes : {C H P : Type 0} → (C → Shown) → Around H → Callers H P → State → Reading → Writing → Writing → Job → ℕ → Course → Type 0
JobMakes shows a p s i o t (job.Store (store_job.Import w)) status c =
    Ends (λ outcome. IsZoneMade w.zone.origin.now w.existing s i o outcome c ⊎ IsZoneRefused w.zone.origin.now w.existing s i o outcome c) status
JobMakes shows a p s i o t (job.Store (store_job.ImportList w)) status c =
    OfInput a i w.list.now (λ list. Ends (λ outcome. AreNoneMade o outcome c
    ⊎ ((zones : List ZoneFileOf) × Makes list.left zone_files_read (Ok zones) × AreZonesMade a w.existing s zones o outcome c)) status)
JobMakes shows a p s i o t (job.Store (store_job.Remove w)) status c =
    Ends (λ outcome. IsZoneRemoved w.zone.origin.now s o outcome c ⊎ IsRemovalRefused w.zone.origin.now s o outcome c) status
JobMakes shows a p s i o t (job.Store (store_job.Serve service)) status c =
    Ends (λ outcome. (IsUnserved o t outcome × IsNothing c) ⊎ IsServed shows a p service s o t outcome c) status
JobMakes shows a p s i o t asked status c = IsNothing c

-- the job that the words ask for made it; or they ask for help or are misused, and nothing was made
abbrev pub IsCourse : {A F C H P : Type 0} → Setting A F C H P → State → Start A F C → Course → Type 0
IsCourse w s st c =
    ((asked : Job) × (job_of st.words ≡ Some (asks asked)) × JobMakes w.shows (w.around st.around) w.callers s st.input st.output st.trace asked st.status c)
    ⊎ ((refused : WordsFault) × IsMisuse st.words refused × IsNothing c)

-- each start from the state that those before it lead to
abbrev pub AreCourses : {A F C H P : Type 0} → Setting A F C H P → State → List (Start A F C) → List Course → Type 0
AreCourses w s [] [] = Unit {0}
AreCourses w s (st ∷ later) (c ∷ courses) = IsCourse w s st c × AreCourses w (state_after_deeds s (deeds_of c)) later courses
AreCourses w s starts courses = ⊥

-- what all of them made, in order
abbrev pub history : List Course → List Deed
history courses = flat_map deeds_of courses

-- From a state on the disk, however often the program is started there, whatever its words are, and however each start ends: there is one
-- history of all calls that were answered on any connection, of all zones that were imported, replaced or taken out, and of at most one
-- call or zone for each start of which a failure was told. Each answer is that of the machine at its place in the history, which leads to the
-- state that is on the disk.
abbrev pub StartsHaveOneHistory : {A F C H P : Type 0} → Setting A F C H P → Type 0
StartsHaveOneHistory {A} {F} {C} w =
    (s : State) (db end : Trees) (starts : List (Start A F C)) → HasState db s → AreStarts w db starts end
    → (courses : List Course) × AreCourses w s starts courses × HasState end (state_after_deeds s (history courses))

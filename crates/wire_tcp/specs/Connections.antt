-- Serving connections, one after the other, and what is written of one that ended by a fault.
use Rattle.std.specs.Prelude.{◌≡◌, ◌⊎◌, ℕ, ◌<◌, ◌≤◌, List, ◌∷◌, [], ◌++◌, length, map, codes, decimal, Option, Some, None, Result, Ok, Err}
use Rattle.std.specs.Io.KnownBytes.{Appends}
use Rattle.std.specs.List.{flat_map}
use Rattle.grant_policy.specs.declared.rule.Rule.{Rule}
use Rattle.office_wire.specs.declared.ending.Ending.{Ending}
use Rattle.office_wire.specs.declared.serve_fault.ServeFault.{ServeFault}
use Rattle.office_wire.specs.Exchange.{Turn, Standing, Run}
use Rattle.office_wire.specs.Promises.{ArePromised}
use Rattle.office_wire.specs.Refusals.{fault_number}
use Rattle.office_wire.specs.Servfails.{servfails}
use Rattle.office_wire.specs.Order.{Flow}
use Rattle.office_wire.specs.Serving.{standing, IsStreamServed}
use Rattle.store_faults.specs.declared.store_fault.StoreFault.{StoreFault}
use Rattle.cli_core.specs.declared.line_fault.LineFault.TheVariants.{ReadFailed}
use Rattle.cli_core.specs.declared.line_fault.JobFault.{JobFault}
use Rattle.cli_core.specs.declared.line_fault.JobFault.TheVariants.{Reported, WriteFailed}
use Rattle.cli_core.specs.Device.{AppendsFront}
use Rattle.cli_core.specs.Replies.{line_of}
use Rattle.office_model.specs.States.{State}
use Rattle.office_model.specs.Tables.{Keeps, Kept}
use Rattle.wire_tcp.specs.Causes.{trace_of}
use Rattle.wire_tcp.specs.Limits.{Limits}
use Rattle.wire_tcp.specs.Waits.{Times, AreWaits}
use Rattle.wire_tcp.specs.Tries.{AreTried}
use Rattle.wire_tcp.specs.Ages.{AreAges}

-- the fault's published number
abbrev pub connection_line : ServeFault → List ℕ
connection_line fault = codes "connection " ++ decimal (fault_number fault) ++ 10 ∷ []

-- what is written of a connection: nothing, unless a fault ended it
abbrev pub ended_line : Option ServeFault → List ℕ
ended_line None = []
ended_line (Some fault) = connection_line fault

abbrev pub ended_lines : List (Option ServeFault) → List ℕ
ended_lines ends = flat_map ended_line ends

-- ---- one connection

-- a connection that was served: its turns, how it ended, and why the store failed, as far as that was known then
pub record Visit : Type 0 where
  pub turns : List Turn
  pub ended : Result Ending ServeFault
  pub store : Option StoreFault

-- the fault that ended it, if one did
abbrev pub fault_of : Result Ending ServeFault → Option ServeFault
fault_of (Ok ending) = None
fault_of (Err fault) = Some fault

-- What a table holds, what a crash leaves of it, how many of its calls have failed, and why the last of them did; which peer a listener
-- gives, and which it takes back, with how its connection ended; and what is known of a peer, and of time at it.
pub record Parties (T H P : Type 0) : Type 1 where
  pub holds : T → State → Type 0
  pub leaves : T → State → State → Type 0
  pub failures : T → ℕ
  pub fault : T → Option StoreFault
  pub gives : H → P → H → Type 0
  pub ends : H → P → Result Ending ServeFault → H → Type 0
  pub flow : P → Flow
  pub times : P → Times

-- a moment between two connections: the table, a state that it holds and what a crash leaves of it, and the listener
pub record Moment (T H : Type 0) : Type 0 where
  pub table : T
  pub kept : Kept
  pub listener : H

abbrev pub standing_at : {T H P : Type 0} → Parties T H P → Moment T H → Standing
standing_at w m = standing m.kept (w.failures m.table)

-- A connection between two moments. Its peer was the next that the listener gave, and was handed back to it with how it ended. The turns
-- are the requests that this peer sent, and what was written to it are their responses, each before more is read. They are answered by the
-- rules and the state of the moment before, and lead to that of the moment after. The peer was waited for within the limits, a read or a
-- write that was cut short was begun again, and one that failed ended the connection. It was asked for another request only while its
-- connection was young, and else its connection ended.
pub record IsVisit {T H P : Type 0} (w : Parties T H P) (rules : List Rule) (limits : Limits) (v : Visit) (before after : Moment T H) : Type 0 where
  pub came : P
  pub went : P
  pub between : H
  pub given : w.gives before.listener came between
  pub back : w.ends between went v.ended after.listener
  pub served : IsStreamServed v.turns v.ended (w.flow came) (w.flow went)
  pub waited : AreWaits limits (w.times came).waits (w.times went).waits
  pub tried : AreTried v.ended (w.times came).waits (w.times went).waits
  pub aged : AreAges limits.longest v.turns v.ended (w.times came).ages (w.times went).ages
  pub run : Run rules (standing_at w before) v.turns (standing_at w after)
  pub keeps : Keeps (w.holds after.table) (w.leaves after.table) after.kept
  pub store : v.store ≡ w.fault after.table

-- one connection after the other
abbrev pub AreVisits : {T H P : Type 0} → Parties T H P → List Rule → Limits → List Visit → Moment T H → Moment T H → Type 0
AreVisits w rules limits [] before after = after ≡ before
AreVisits {T} {H} w rules limits (v ∷ visits) before after =
    (m : Moment T H) × IsVisit w rules limits v before m × AreVisits w rules limits visits m after

-- ---- all of them

-- their turns, one connection after the other
abbrev pub joined : List Visit → List Turn
joined visits = flat_map (λ v. v.turns) visits

-- the faults that ended them
abbrev pub ends : List Visit → List (Option ServeFault)
ends visits = map (λ v. fault_of v.ended) visits

-- what tells of the requests that were answered SERVFAIL
abbrev pub trace_at : Visit → List ℕ
trace_at v = trace_of (servfails v.turns) v.store

abbrev pub traces : List Visit → List ℕ
traces visits = flat_map trace_at visits

-- a stream that is written: what it held before and after, and its failures before and after
pub record Writing : Type 0 where
  pub old : Option (List ℕ)
  pub new : Option (List ℕ)
  pub before : ℕ
  pub after : ℕ

-- What tells of connections on the writer of traces. What could not be written is let go, and then nothing is said.
pub record AreTraced (visits : List Visit) (o : Writing) : Type 0 where
  pub counted : o.before ≤ o.after
  pub written : o.after ≡ o.before → Appends o.old o.new (traces visits)

-- Connections between two moments, and what the office promises of calls, which holds of all of them together.
pub record AreServed {T H P : Type 0} (w : Parties T H P) (rules : List Rule) (limits : Limits) (visits : List Visit) (before after : Moment T H) : Type 0 where
  pub each : AreVisits w rules limits visits before after
  pub run : Run rules (standing_at w before) (joined visits) (standing_at w after)
  pub promised : ArePromised rules before.kept.state (joined visits) after.kept.state

-- That no connection can be had, how many were asked for, how each ended that was served, what the writer held before and after, the
-- answer, and the writer's failures before and after. A line tells each fault that ended one. Fewer are served only where one cannot be
-- had, which is told, or where a line cannot be written.
abbrev pub AreReported : Type 0 → ℕ → List (Option ServeFault) → Option (List ℕ) → Option (List ℕ) → Result (Unit {0}) JobFault → ℕ → ℕ → Type 0
AreReported cut most ends old new (Ok done) before after = (length ends ≡ most) × Appends old new (ended_lines ends) × (after ≡ before)
AreReported cut most ends old new (Err (Reported ReadFailed)) before after =
    cut × (length ends < most) × Appends old new (ended_lines ends ++ line_of ReadFailed) × (after ≡ before)
AreReported cut most ends old new (Err (Reported fault)) before after = ⊥
AreReported cut most ends old new (Err WriteFailed) before after =
    (((length ends ≤ most) × AppendsFront old new (ended_lines ends)) ⊎ (cut × (length ends < most) × AppendsFront old new (ended_lines ends ++ line_of ReadFailed)))
    × (before < after)

-- The rules, the limits, how many connections were asked for, and that no further one can be had.
pub record Asked : Type 1 where
  pub rules : List Rule
  pub limits : Limits
  pub most : ℕ
  pub cut : Type 0

-- What is asked, the moment before but for the state, the table and the listener after, the answer, and what was written of connections and
-- of their failures. From each state that the table held, connections were served, one after the other, up to one that it holds now, and so
-- of what a crash leaves; a line tells each fault that ended one of them; and the trace tells of those of their requests that were answered
-- SERVFAIL.
abbrev pub AreServedFrom : {T H P : Type 0} → Parties T H P → Asked → T → H → T → H → Result (Unit {0}) JobFault → Writing → Writing → Type 0
AreServedFrom w asked table listener table_after listener_after result lines trace =
    (s : Kept) → Keeps (w.holds table) (w.leaves table) s → (visits : List Visit) × (t : Kept) × Keeps (w.holds table_after) (w.leaves table_after) t
    × AreServed w asked.rules asked.limits visits (record { table = table; kept = s; listener = listener }) (record { table = table_after; kept = t; listener = listener_after })
    × AreReported asked.cut asked.most (ends visits) lines.old lines.new result lines.before lines.after × AreTraced visits trace

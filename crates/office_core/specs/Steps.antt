-- What one call of `step` does, over any table.
use Rattle.std.specs.Prelude.{◌≡◌, ℕ, List, [], if◌then◌else◌, Option, Some, None, Result, Ok, Err}
use Rattle.std.specs.Option.{option_or}
use Rattle.grant_policy.specs.declared.rule.Rule.{Rule}
use Rattle.zone_core.specs.Sets.{Records, is_same}
use Rattle.zone_core.specs.Zones.{ZoneOf}
use Rattle.zone_core.specs.Updates.{UpdateOf}
use Rattle.zone_core.specs.Effects.{zone_after}
use Rattle.zone_core.specs.Changes.{ChangeOf, change_between}
use Rattle.office_model.specs.declared.table_fault.StepFault.{StepFault}
use Rattle.office_model.specs.declared.table_fault.StepFault.TheVariants.{BeforeCommit, Commit}
use Rattle.office_model.specs.TableFaults.{cause}
use Rattle.office_model.specs.declared.request.Request.{Request}
use Rattle.office_model.specs.declared.request.Request.TheVariants.{Update, Read}
use Rattle.office_model.specs.declared.reply.Reply.{Reply}
use Rattle.office_model.specs.declared.reply.Reply.TheVariants.{Servfail}
use Rattle.office_model.specs.declared.reply.UpdateReply.{UpdateReply}
use Rattle.office_model.specs.declared.reply.UpdateReply.TheVariants.{NoError, NotAuth}
use Rattle.office_model.specs.Replies.{reply_of, to_update}
use Rattle.office_model.specs.States.{Held, State}
use Rattle.office_model.specs.Tables.{CountsFault, AdditionOf, Fits, LeavesOr, committed}
use Rattle.office_core.specs.Machine.{Turn, step, outside_reply, denied_reply, failed_reply, zone_refusal, receipt}

-- What a request is answered from a state, and that the state after it is held: a step of the machine; or the table failed or
-- memory ran out, and nothing changed.
abbrev pub Steps : (State → Type 0) → List Rule → State → List ℕ → Request → Reply → Type 0
Steps holds rules s caller request (Servfail fault) = holds s
Steps holds rules s caller request reply = (reply_of reply ≡ Some (step rules s caller request).reply) × holds (step rules s caller request).after

-- The other state that a crash may leave after a request: after an update none but the one that is held; a query leaves it as it was.
abbrev pub other_after : Request → State → Option State → Option State
other_after (Update origin id update) after other = Some after
other_after (Read query) after other = other

-- What a crash leaves after a reply. After an update that was answered it leaves the state after it, and nothing else, whatever it might
-- have left before; where the commit failed, the state before or the one after. A query changes nothing, nor does a step that failed before
-- its commit.
abbrev pub Leaves : (State → State → Type 0) → List Rule → State → Option State → List ℕ → Request → Reply → Type 0
Leaves leaves rules s other caller request (Servfail (BeforeCommit fault)) = LeavesOr leaves s other
Leaves leaves rules s other caller request (Servfail (Commit fault)) = leaves s (step rules s caller request).after
Leaves leaves rules s other caller request reply =
    LeavesOr leaves (step rules s caller request).after (other_after request (step rules s caller request).after other)

-- a reply for a failure of the table is one where its count rose by one, and it did for no other reply
abbrev pub CountsReply : ℕ → ℕ → Reply → Type 0
CountsReply before after (Servfail fault) = CountsFault before after (cause fault)
CountsReply before after reply = after ≡ before

-- ---- inside a step

-- a reply is one of the machine
abbrev pub IsAnswer : Reply → Type 0
IsAnswer (Servfail fault) = ⊥
IsAnswer reply = Unit {0}

-- the same of a part of a step, which answers a fault by itself
abbrev pub Takes : {E : Type 0} → (State → Type 0) → State → Turn → Result Reply E → Type 0
Takes holds s turn (Ok reply) = (reply_of reply ≡ Some turn.reply) × holds turn.after
Takes holds s turn (Err fault) = holds s

abbrev pub LeavesTurn : (State → State → Type 0) → State → Option State → Request → Turn → Result Reply StepFault → Type 0
LeavesTurn leaves s other request turn (Ok reply) = LeavesOr leaves turn.after (other_after request turn.after other)
LeavesTurn leaves s other request turn (Err (BeforeCommit fault)) = LeavesOr leaves s other
LeavesTurn leaves s other request turn (Err (Commit fault)) = leaves s turn.after

-- the same of an update
abbrev pub LeavesUpdate : (State → State → Type 0) → State → Option State → Turn → Result Reply StepFault → Type 0
LeavesUpdate leaves s other turn (Ok reply) = leaves turn.after turn.after
LeavesUpdate leaves s other turn (Err (BeforeCommit fault)) = LeavesOr leaves s other
LeavesUpdate leaves s other turn (Err (Commit fault)) = leaves s turn.after

abbrev pub CountsStep : ℕ → ℕ → Result Reply StepFault → Type 0
CountsStep before after (Ok reply) = after ≡ before
CountsStep before after (Err fault) = CountsFault before after (cause fault)

-- ---- inside an update

-- what is held of an origin, where its changes say nothing
abbrev pub held_in : ZoneOf → Held
held_in zone = record { records = zone.records; changes = [] }

-- the change that an update makes of a set, if it makes one
abbrev pub change_made : Records → Records → Option ChangeOf
change_made before after = if is_same before after then None else Some (change_between before after)

-- what an update of a zone is answered, and what it changes: nothing where it is refused
abbrev pub Makes : ZoneOf → UpdateOf → Option UpdateReply → UpdateReply → Option ChangeOf → Type 0
Makes zone update (Some refused) reply change = (reply ≡ refused) × (change ≡ None)
Makes zone update None reply change = (reply ≡ NoError) × (change ≡ change_made zone.records (zone_after zone update).records)

-- the same where there may be no zone
abbrev pub MakesAt : List Rule → List ℕ → UpdateOf → Option ZoneOf → UpdateReply → Option ChangeOf → Type 0
MakesAt rules caller update None reply change = (reply ≡ NotAuth) × (change ≡ None)
MakesAt rules caller update (Some zone) reply change = Makes zone update (zone_refusal rules caller zone.origin update (held_in zone)) reply change

-- why an update is refused before a record is read: the first that applies of its names and the policy
abbrev pub unread_refusal : List Rule → List ℕ → List (List ℕ) → UpdateOf → Option UpdateReply
unread_refusal rules caller origin update = option_or (outside_reply origin update) (denied_reply rules caller origin update)

-- what an update that is not refused so is answered, and what it changes, where the zone is that of the origin
abbrev pub MakesOf : List (List ℕ) → UpdateOf → Option ZoneOf → UpdateReply → Option ChangeOf → Type 0
MakesOf origin update None reply change = (reply ≡ NotAuth) × (change ≡ None)
MakesOf origin update (Some zone) reply change = zone.origin ≡ origin → Makes zone update (failed_reply zone.records update) reply change

-- what is kept of an update: its receipt, and the change that it made
abbrev pub addition_of : List ℕ → List ℕ → List (List ℕ) → UpdateOf → UpdateReply → Option ChangeOf → AdditionOf
addition_of caller id origin update reply change = record { caller = caller; id = id; receipt = receipt origin update reply; change = change }

-- an addition fits a state, and is what the machine keeps in its turn, which is answered by a reply
pub record Commits (s : State) (turn : Turn) (a : AdditionOf) (reply : UpdateReply) : Type 0 where
  pub fits : Fits s a
  pub replied : turn.reply ≡ to_update reply
  pub after : turn.after ≡ committed a s

-- Runs of the machine: the replies to calls, one after the other, and the state after them.
use Rattle.std.specs.Prelude.{◌≡◌, ℕ, List, [], ◌∷◌, ◌++◌, length, Option, Some, None}
use Rattle.std.specs.List.{AllByRecursion}
use Rattle.grant_policy.specs.declared.rule.Rule.{Rule}
use Rattle.zone_core.specs.Updates.{IsUpdate}
use Rattle.office_model.specs.declared.request.Request.{Request}
use Rattle.office_model.specs.declared.request.Request.TheVariants as requests
use Rattle.office_model.specs.declared.request.Call.{Call}
use Rattle.office_model.specs.declared.table_fault.TableFault.TheVariants.{Store}
use Rattle.office_model.specs.declared.table_fault.StepFault.TheVariants.{BeforeCommit, Commit}
use Rattle.office_model.specs.declared.reply.Reply.{Reply}
use Rattle.office_model.specs.declared.reply.Reply.TheVariants.{Servfail}
use Rattle.office_model.specs.Replies.{ReplyOf, reply_of}
use Rattle.office_model.specs.States.{State}
use Rattle.office_core.specs.Machine.{Turn, step}
use Rattle.office_core.specs.Steps.{other_after}

-- the turn of a call
abbrev pub turn : List Rule → State → Call → Turn
turn rules s call = step rules s call.caller call.request

-- a reply, and who gets it
pub record Answer : Type 0 where
  pub caller : List ℕ
  pub reply : ReplyOf

-- the answers to calls
abbrev pub answers : List Rule → State → List Call → List Answer
answers rules s [] = []
answers rules s (call ∷ calls) = record { caller = call.caller; reply = (turn rules s call).reply } ∷ answers rules (turn rules s call).after calls

-- the state after them
abbrev pub state_after : List Rule → State → List Call → State
state_after rules s [] = s
state_after rules s (call ∷ calls) = state_after rules (turn rules s call).after calls

-- ---- what is asked

-- the update of a request, where it has one, is an update
abbrev pub HasUpdate : Request → Type 0
HasUpdate (requests.Update origin id update) = IsUpdate update
HasUpdate request = Unit {0}

abbrev pub HaveUpdates : List Call → Type 0
HaveUpdates calls = AllByRecursion (λ call. HasUpdate call.request) calls

-- ---- what the program answers

-- a call with its answer, where it has one
abbrev pub one_kept : Call → Option ReplyOf → List Call
one_kept call None = []
one_kept call (Some reply) = call ∷ []

abbrev pub one_given : Call → Option ReplyOf → List Answer
one_given call None = []
one_given call (Some reply) = record { caller = call.caller; reply = reply } ∷ []

-- the calls without those for which the table failed or memory ran out
abbrev pub kept : List Call → List Reply → List Call
kept [] rs = []
kept (call ∷ calls) [] = []
kept (call ∷ calls) (r ∷ rs) = one_kept call (reply_of r) ++ kept calls rs

-- and what they were answered
abbrev pub given : List Call → List Reply → List Answer
given [] rs = []
given (call ∷ calls) [] = []
given (call ∷ calls) (r ∷ rs) = one_given call (reply_of r) ++ given calls rs

-- Each call has a reply; and what was answered is the machine's run of the calls that were answered, whose state is held.
pub record IsRun (holds : State → Type 0) (rules : List Rule) (s : State) (calls : List Call) (rs : List Reply) : Type 0 where
  pub each_replied : length rs ≡ length calls
  pub as_machine : given calls rs ≡ answers rules s (kept calls rs)
  pub held : holds (state_after rules s (kept calls rs))

-- how many failures of the table a reply tells
abbrev pub counted_failures : Reply → ℕ
counted_failures (Servfail (BeforeCommit Store)) = 1
counted_failures (Servfail (Commit Store)) = 1
counted_failures reply = 0

-- ---- what a crash leaves

-- the other state that a crash may leave after a reply to a call
abbrev pub other_next : List Rule → State → Option State → Call → Reply → Option State
other_next rules s other call (Servfail (BeforeCommit fault)) = other
other_next rules s other call (Servfail (Commit fault)) = Some (turn rules s call).after
other_next rules s other call reply = other_after call.request (turn rules s call).after other

-- and after the replies to calls
abbrev pub other_in : List Rule → State → Option State → List Call → List Reply → Option State
other_in rules s other [] rs = other
other_in rules s other (call ∷ calls) [] = other
other_in rules s other (call ∷ calls) (r ∷ rs) = other_in rules (state_after rules s (one_kept call (reply_of r))) (other_next rules s other call r) calls rs

-- What is promised of the calls of an exchange.
use Rattle.std.specs.Prelude.{◌≡◌, ◌⊎◌, List, [], ◌∷◌, ◌++◌, Some, Result, Ok}
use Rattle.std.specs.List.{flat_map}
use Rattle.grant_policy.specs.declared.rule.Rule.{Rule}
use Rattle.office_model.specs.declared.request.Call.{Call}
use Rattle.office_model.specs.declared.table_fault.StepFault.{StepFault}
use Rattle.office_model.specs.declared.reply.Reply.TheVariants.{Servfail}
use Rattle.office_model.specs.Replies.{reply_of}
use Rattle.office_model.specs.States.{State, AreZones, AreReceipts}
use Rattle.office_core.specs.Runs.{Answer, turn, answers, state_after, one_kept, one_given}
use Rattle.office_core.specs.Promises.{CallsAreRight}
use Rattle.office_core.specs.RightAnswers.{AnswersAreRight}
use Rattle.office_core.specs.Isolation.{AreAnsweredAlone}
use Rattle.office_wire.specs.declared.request_fault.RequestFault.{RequestFault}
use Rattle.office_wire.specs.declared.response.Response.{Response}
use Rattle.office_wire.specs.declared.response.Response.TheVariants.{Replied}
use Rattle.office_wire.specs.Requests.{call_of}
use Rattle.office_wire.specs.Exchange.{Turn, Standing, Run}

-- the call of what was read, where the machine answered it; none where it was refused in reading, or answered SERVFAIL
abbrev pub call_in : Result Call RequestFault → Response → List Call
call_in (Ok call) (Replied reply) = one_kept call (reply_of reply)
call_in read response = []

-- and what it was answered
abbrev pub answer_in : Result Call RequestFault → Response → List Answer
answer_in (Ok call) (Replied reply) = one_given call (reply_of reply)
answer_in read response = []

-- the calls of turns that the machine answered, in their order
abbrev pub calls : List Turn → List Call
calls turns = flat_map (λ t. call_in (call_of t.head t.body) t.response) turns

-- and what they were answered
abbrev pub given : List Turn → List Answer
given turns = flat_map (λ t. answer_in (call_of t.head t.body) t.response) turns

-- What is promised of turns from a state to another: their calls are a run of the machine, which gives the same answers and leads to the
-- other state; what the office promises of calls holds of them; each answer is right, by the state before its call and after it;
-- and what it promises each caller of what others do.
pub record ArePromised (rules : List Rule) (s : State) (turns : List Turn) (t : State) : Type 0 where
  pub as_machine : given turns ≡ answers rules s (calls turns)
  pub after : t ≡ state_after rules s (calls turns)
  pub right : CallsAreRight rules s (calls turns)
  pub answered : AnswersAreRight rules s (calls turns) (given turns)
  pub alone : AreAnsweredAlone rules s (calls turns) (given turns)

-- the state after a call
abbrev pub after_call : List Rule → State → Call → State
after_call rules s call = (turn rules s call).after

-- exchanges are runs of the machine
abbrev pub ExchangesAreRuns : Type 0
ExchangesAreRuns =
    (rules : List Rule) (c d : Standing) (turns : List Turn) → AreZones c.state → AreReceipts c.state → Run rules c turns d
    → ArePromised rules c.state turns d.state

-- ---- crashes

-- this turn is of the call, and was answered SERVFAIL
pub record IsUnanswered (call : Call) (t : Turn) : Type 0 where
  pub asked : call_of t.head t.body ≡ Ok call
  pub fault : StepFault
  pub told : t.response ≡ Replied (Servfail fault)

-- The other state that a crash may leave is the one after one more call, of a turn that was answered SERVFAIL.
pub record IsInHand (rules : List Rule) (turns : List Turn) (d : Standing) : Type 0 where
  pub earlier : List Turn
  pub turn : Turn
  pub later : List Turn
  pub among : turns ≡ earlier ++ turn ∷ later
  pub call : Call
  pub unanswered : IsUnanswered call turn
  pub left : d.other ≡ Some (after_call rules d.state call)

-- Where a crash left nothing but the state before turns, after them it leaves the state after those that were answered, or the one after
-- one more call, which was answered SERVFAIL.
abbrev pub CrashesLeaveOneMore : Type 0
CrashesLeaveOneMore =
    (rules : List Rule) (c d : Standing) (turns : List Turn) → c.other ≡ Some c.state → Run rules c turns d
    → (d.other ≡ Some d.state) ⊎ IsInHand rules turns d

-- Updates as they are submitted.
use Rattle.std.specs.Prelude.{◌≡◌, Option, None}
use Rattle.zone_core.specs.Changes.{ChangeOf}
use Rattle.office_model.specs.declared.reply.UpdateReply.{UpdateReply}
use Rattle.office_model.specs.States.{State, zone_at}
use Rattle.office_model.specs.Tables.{AdditionOf}
use Rattle.office_core.specs.declared.submission.Submission.{Submission}
use Rattle.office_core.specs.Machine.{Turn, updated, answered, refusal}
use Rattle.office_core.specs.Steps.{MakesAt, addition_of}

-- the caller has no receipt under the identifier
abbrev pub IsFresh : Submission → State → Type 0
IsFresh x s = s.receipts x.caller.now x.id.now ≡ None

-- what it is answered by the machine, and the state after it: by the receipt that there is
abbrev pub submitted : Submission → State → Turn
submitted x s = updated x.policy.now s x.caller.now x.id.now x.origin.now x.update.now (s.receipts x.caller.now x.id.now)

-- and where there is none
abbrev pub first_submitted : Submission → State → Turn
first_submitted x s =
    answered s x.caller.now x.id.now x.origin.now x.update.now (refusal x.policy.now x.caller.now x.origin.now x.update.now (s.zones x.origin.now))

-- what it is answered where there is none, and what it changes
abbrev pub MakesFirst : Submission → State → UpdateReply → Option ChangeOf → Type 0
MakesFirst x s reply change = MakesAt x.policy.now x.caller.now x.update.now (zone_at s x.origin.now) reply change

-- what is kept of it
abbrev pub addition_for : Submission → UpdateReply → Option ChangeOf → AdditionOf
addition_for x reply change = addition_of x.caller.now x.id.now x.origin.now x.update.now reply change

-- What a crash leaves after the turns of a stream.
use Rattle.std.proofs.Common.{◌≡◌, ◌⊎◌, ℕ, List, [], ◌∷◌, Some, Result, Ok, refl, sym, ap, ◌∙◌, inl, inr}
use Rattle.grant_policy.specs.declared.rule.Rule.{Rule}
use Rattle.office_model.specs.declared.table_fault.StepFault.{StepFault}
use Rattle.office_model.specs.declared.table_fault.StepFault.TheVariants.{BeforeCommit, Commit}
use Rattle.office_model.specs.declared.request.Call.{Call}
use Rattle.office_model.specs.declared.request.Request.{Request}
use Rattle.office_model.specs.declared.request.Request.TheVariants.{Update, Read}
use Rattle.office_model.specs.declared.reply.Reply.TheVariants.{Servfail}
use Rattle.office_model.specs.States.{State}
use Rattle.office_core.specs.Machine.{step}
use Rattle.office_core.specs.Steps.{other_after}
use Rattle.office_wire.specs.declared.request_fault.RequestFault.{RequestFault}
use Rattle.office_wire.specs.declared.response.Response.{Response}
use Rattle.office_wire.specs.declared.response.Response.TheVariants.{Replied}
use Rattle.office_wire.specs.Requests.{call_of}
use Rattle.office_wire.specs.Exchange.{Turn, Standing, Answers, Run, replied, failed, refused}
use Rattle.office_wire.specs.Promises.{IsInHand, CrashesLeaveOneMore, after_call}

-- nothing changed, nor what a crash may leave
abbrev IsStill : Standing → Standing → Type 0
IsStill c d = (d.other ≡ c.other) × (d.state ≡ c.state)

-- what stands is what a crash leaves
abbrev IsSettled : Standing → Type 0
IsSettled d = d.other ≡ Some d.state

module _ (rules : List Rule) where
  -- it was asked for and answered SERVFAIL, and a crash may leave the state after it
  record IsOpen (read : Result Call RequestFault) (response : Response) (d : Standing) : Type 0 where
    call : Call
    asked : read ≡ Ok call
    fault : StepFault
    told : response ≡ Replied (Servfail fault)
    left : d.other ≡ Some (after_call rules d.state call)

  by_request : (c d : Standing) (caller : List ℕ) (request : Request) → d.state ≡ (step rules c.state caller request).after
      → d.other ≡ other_after request (step rules c.state caller request).after c.other → IsStill c d ⊎ IsSettled d
  by_request c d caller (Update origin id update) after other = inr (other ∙ ap (λ (s : State). Some s) (sym after))
  by_request c d caller (Read query) after other = inl (other, after)

  answered : (c d : Standing) (read : Result Call RequestFault) (response : Response) → Answers rules c read response d
      → IsStill c d ⊎ IsSettled d ⊎ IsOpen read response d
  answered c d read response (replied call reply e has r said after other count) = elim (by_request c d call.caller call.request after other) [ inl still ↦ inl still | inr settled ↦ inr (inl settled) ]
  answered c d read response (failed (BeforeCommit fault) r stays other count) = inl (other, stays)
  answered c d read response (failed (Commit fault) r stays other count) = inr (inr (record {
    call = other.0;
    asked = other.1;
    fault = Commit fault;
    told = r;
    left = other.2 ∙ ap (λ (s : State). Some (after_call rules s other.0)) (sym stays);
  }))
  answered c d read response (refused fault e r stays) = inl (ap (λ (o : Standing). o.other) stays, ap (λ (o : Standing). o.state) stays)

  abbrev Behind : Standing → List Turn → Standing → Type 0
  Behind c turns d = IsStill c d ⊎ IsSettled d ⊎ IsInHand rules turns d

  first : (c m d : Standing) (t : Turn) (turns : List Turn) → IsStill m d → IsStill c m ⊎ IsSettled m ⊎ IsOpen (call_of t.head t.body) t.response m → Behind c (t ∷ turns) d
  first c m d t turns still (inl before) = inl (still.0 ∙ before.0, still.1 ∙ before.1)
  first c m d t turns still (inr (inl settled)) = inr (inl (still.0 ∙ settled ∙ ap (λ (s : State). Some s) (sym still.1)))
  first c m d t turns still (inr (inr lost)) = inr (inr (record {
    earlier = [];
    turn = t;
    later = turns;
    among = refl;
    call = lost.call;
    unanswered = record { asked = lost.asked; fault = lost.fault; told = lost.told };
    left = still.0 ∙ lost.left ∙ ap (λ (s : State). Some (after_call rules s lost.call)) (sym still.1);
  }))

  next : (c m d : Standing) (t : Turn) (turns : List Turn) → IsStill c m ⊎ IsSettled m ⊎ IsOpen (call_of t.head t.body) t.response m → Behind m turns d → Behind c (t ∷ turns) d
  next c m d t turns one (inl still) = first c m d t turns still one
  next c m d t turns one (inr (inl settled)) = inr (inl settled)
  next c m d t turns one (inr (inr hand)) = inr (inr (record {
    earlier = t ∷ hand.earlier;
    turn = hand.turn;
    later = hand.later;
    among = ap (λ (l : List Turn). t ∷ l) hand.among;
    call = hand.call;
    unanswered = hand.unanswered;
    left = hand.left;
  }))

  behind : (c d : Standing) (turns : List Turn) → Run rules c turns d → Behind c turns d
  behind c d [] run = inl (ap (λ (o : Standing). o.other) run, ap (λ (o : Standing). o.state) run)
  behind c d (t ∷ turns) run = next c run.0 d t turns (answered c run.0 (call_of t.head t.body) t.response run.1) (behind run.0 d turns run.2)

pub crashes_leave_one_more : CrashesLeaveOneMore
crashes_leave_one_more rules c d turns settled run = elim (behind rules c d turns run) [ inl still ↦ inl (still.0 ∙ settled ∙ ap (λ (s : State). Some s) (sym still.1)) | inr more ↦ more ]

-- The calls of an exchange are a run of the machine.
use Rattle.std.proofs.Common.{◌≡◌, List, [], ◌∷◌, ◌++◌, Option, Result, Ok, Err, refl, sym, ap, subst, ◌∙◌}
use Rattle.grant_policy.specs.declared.rule.Rule.{Rule}
use Rattle.office_model.specs.declared.table_fault.StepFault.{StepFault}
use Rattle.office_model.specs.declared.request.Call.{Call}
use Rattle.office_model.specs.declared.reply.Reply.TheVariants.{Servfail}
use Rattle.office_model.specs.Replies.{ReplyOf}
use Rattle.office_model.specs.States.{State}
use Rattle.office_core.specs.Runs.{Answer, turn, answers, state_after, HasUpdate, HaveUpdates, one_kept, one_given}
use Rattle.office_core.specs.Isolation.{replies_to}
use Rattle.office_core.specs.RightAnswers.{AnswersAreRight}
use Rattle.office_core.proofs.AnswerLemmas.{answers_are_right}
use Rattle.office_core.proofs.CallLemmas.{calls_are_right}
use Rattle.office_core.proofs.IsolationLemmas.{callers_are_alone, blind_callers_are_alone, policies_keep_alone}
use Rattle.office_wire.specs.declared.request_fault.RequestFault.{RequestFault}
use Rattle.office_wire.specs.declared.response.Response.{Response}
use Rattle.office_wire.specs.declared.response.Response.TheVariants.{Replied}
use Rattle.office_wire.specs.Requests.{call_of}
use Rattle.office_wire.specs.Exchange.{Turn, Standing, Answers, replied, failed, refused, Run}
use Rattle.office_wire.specs.Promises.{call_in, answer_in, calls, given, ExchangesAreRuns}

-- calls are a run from a state to another, in which this is told
record IsRunOf (rules : List Rule) (s : State) (cs : List Call) (ys : List Answer) (t : State) : Type 0 where
  given : ys ≡ answers rules s cs
  after : t ≡ state_after rules s cs
  have : HaveUpdates cs

-- ---- one turn

none_called : (read : Result Call RequestFault) (fault : StepFault) → call_in read (Replied (Servfail fault)) ≡ []
none_called (Ok call) fault = refl
none_called (Err e) fault = refl

none_given : (read : Result Call RequestFault) (fault : StepFault) → answer_in read (Replied (Servfail fault)) ≡ []
none_given (Ok call) fault = refl
none_given (Err e) fault = refl

module _ (rules : List Rule) where
  no_call : (s t : State) (cs : List Call) (ys : List Answer) → cs ≡ [] → ys ≡ [] → t ≡ s → IsRunOf rules s cs ys t
  no_call s t cs ys p q r = record {
    given = q ∙ ap (answers rules s) (sym p);
    after = r ∙ ap (state_after rules s) (sym p);
    have = subst (λ (l : List Call). HaveUpdates l) (sym p) tt;
  }

  one_call : (s t : State) (call : Call) (x : ReplyOf) (cs : List Call) (ys : List Answer) → cs ≡ call ∷ [] → ys ≡ (record { caller = call.caller; reply = x }) ∷ []
      → x ≡ (turn rules s call).reply → t ≡ (turn rules s call).after → HasUpdate call.request → IsRunOf rules s cs ys t
  one_call s t call x cs ys p q r after has = record {
    given = q ∙ ap (λ (y : ReplyOf). record { caller = call.caller; reply = y } ∷ []) r ∙ ap (answers rules s) (sym p);
    after = after ∙ ap (state_after rules s) (sym p);
    have = subst (λ (l : List Call). HaveUpdates l) (sym p) (has, tt);
  }

  of_turn : (c d : Standing) (read : Result Call RequestFault) (response : Response) → Answers rules c read response d
      → IsRunOf rules c.state (call_in read response) (answer_in read response) d.state
  of_turn c d read response (replied call reply e has r said after other count) =
      let x = (turn rules c.state call).reply in
      one_call c.state d.state call x (call_in read response) (answer_in read response)
      ((λ i. call_in (e i) (r i)) ∙ ap (λ (o : Option ReplyOf). one_kept call o) said)
      ((λ i. answer_in (e i) (r i)) ∙ ap (λ (o : Option ReplyOf). one_given call o) said)
      refl after has
  of_turn c d read response (failed fault r stays other count) =
      no_call c.state d.state (call_in read response) (answer_in read response)
      (ap (λ (o : Response). call_in read o) r ∙ none_called read fault) (ap (λ (o : Response). answer_in read o) r ∙ none_given read fault) stays
  of_turn c d read response (refused fault e r stays) =
      no_call c.state d.state (call_in read response) (answer_in read response)
      (ap (λ (o : Result Call RequestFault). call_in o response) e) (ap (λ (o : Result Call RequestFault). answer_in o response) e) (ap (λ (o : Standing). o.state) stays)

  -- ---- turns

  answers_join : (s : State) (xs ys : List Call) → answers rules s (xs ++ ys) ≡ answers rules s xs ++ answers rules (state_after rules s xs) ys
  answers_join s [] ys = refl
  answers_join s (x ∷ xs) ys = ap (λ (l : List Answer). record { caller = x.caller; reply = (turn rules s x).reply } ∷ l) (answers_join (turn rules s x).after xs ys)

  state_join : (s : State) (xs ys : List Call) → state_after rules s (xs ++ ys) ≡ state_after rules (state_after rules s xs) ys
  state_join s [] ys = refl
  state_join s (x ∷ xs) ys = state_join (turn rules s x).after xs ys

  have_join : (xs ys : List Call) → HaveUpdates xs → HaveUpdates ys → HaveUpdates (xs ++ ys)
  have_join [] ys p q = q
  have_join (x ∷ xs) ys p q = (p.0, have_join xs ys p.1 q)

  run_join : (s m t : State) (xs ys : List Call) (us vs : List Answer) → IsRunOf rules s xs us m → IsRunOf rules m ys vs t → IsRunOf rules s (xs ++ ys) (us ++ vs) t
  run_join s m t xs ys us vs p q = record {
    given = (λ i. p.given i ++ (q.given ∙ ap (λ (k : State). answers rules k ys) p.after) i) ∙ sym (answers_join s xs ys);
    after = q.after ∙ ap (λ (k : State). state_after rules k ys) p.after ∙ sym (state_join s xs ys);
    have = have_join xs ys p.have q.have;
  }

  of_turns : (c d : Standing) (turns : List Turn) → Run rules c turns d → IsRunOf rules c.state (calls turns) (given turns) d.state
  of_turns c d [] run = no_call c.state d.state [] [] refl refl (ap (λ (o : Standing). o.state) run)
  of_turns c d (t ∷ turns) run =
      run_join c.state run.0.state d.state (call_in (call_of t.head t.body) t.response) (calls turns) (answer_in (call_of t.head t.body) t.response) (given turns)
      (of_turn c run.0 (call_of t.head t.body) t.response run.1) (of_turns run.0 d turns run.2)

pub run_answers : (rules : List Rule) (c d : Standing) (turns : List Turn) → Run rules c turns d → given turns ≡ answers rules c.state (calls turns)
run_answers rules c d turns run = (of_turns rules c d turns run).given

pub run_leads : (rules : List Rule) (c d : Standing) (turns : List Turn) → Run rules c turns d → d.state ≡ state_after rules c.state (calls turns)
run_leads rules c d turns run = (of_turns rules c d turns run).after

pub exchanges_run : ExchangesAreRuns
exchanges_run rules c d turns zones receipts run =
    let of = of_turns rules c d turns run in
    let cs = calls turns in
    record {
      as_machine = of.given;
      after = of.after;
      right = calls_are_right rules c.state cs zones receipts of.have;
      answered = subst (λ (ys : List Answer). AnswersAreRight rules c.state cs ys) (sym of.given) (answers_are_right rules c.state cs zones receipts of.have);
      alone = record {
        by_rights = λ caller blind away. ap (replies_to caller) of.given ∙ callers_are_alone rules caller c.state cs zones of.have blind away;
        by_visibility = λ caller blind quiet. ap (replies_to caller) of.given ∙ blind_callers_are_alone rules caller c.state cs zones of.have blind quiet;
        by_policy = λ caller blind others. ap (replies_to caller) of.given ∙ policies_keep_alone rules caller c.state cs zones of.have blind others;
      };
    }

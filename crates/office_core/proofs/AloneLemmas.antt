-- What a run does, and what it tells each caller.
use Rattle.std.proofs.Common.{List, [], ◌∷◌, ◌++◌, Option, Some, None, Result, Ok, Err, IfOk, sym, ap, subst, ◌∙◌}
use Rattle.grant_policy.specs.declared.rule.Rule.{Rule}
use Rattle.office_model.specs.declared.request.Call.{Call}
use Rattle.office_model.specs.declared.reply.Reply.{Reply}
use Rattle.office_model.specs.Replies.{ReplyOf, reply_of}
use Rattle.office_model.specs.States.{State, AreZones, AreReceipts}
use Rattle.office_core.specs.Runs.{HasUpdate, HaveUpdates, one_kept, kept, given, IsRun}
use Rattle.office_core.specs.Isolation.{replies_to, AreAnsweredAlone}
use Rattle.office_core.specs.Promises.{CallsAreRight}
use Rattle.office_core.specs.RightAnswers.{AnswersAreRight}
use Rattle.office_core.proofs.CallLemmas.{calls_are_right}
use Rattle.office_core.proofs.AnswerLemmas.{answers_are_right}
use Rattle.office_core.proofs.IsolationLemmas.{callers_are_alone, blind_callers_are_alone, policies_keep_alone}

-- what is kept of calls has updates, where the calls have
one_has : (call : Call) (o : Option ReplyOf) (rest : List Call) → HasUpdate call.request → HaveUpdates rest → HaveUpdates (one_kept call o ++ rest)
one_has call None rest has all = all
one_has call (Some reply) rest has all = (has, all)

pub kept_have : (calls : List Call) (rs : List Reply) → HaveUpdates calls → HaveUpdates (kept calls rs)
kept_have [] rs all = tt
kept_have (call ∷ calls) [] all = tt
kept_have (call ∷ calls) (r ∷ rs) all = one_has call (reply_of r) (kept calls rs) all.0 (kept_have calls rs all.1)

pub run_alone : (holds : State → Type 0) (rules : List Rule) (s : State) (calls : List Call) (rs : List Reply) → AreZones s → HaveUpdates calls → IsRun holds rules s calls rs → AreAnsweredAlone rules s (kept calls rs) (given calls rs)
run_alone holds rules s calls rs zones has run =
    let have = kept_have calls rs has in
    record {
      by_rights = λ caller blind away. ap (replies_to caller) run.as_machine ∙ callers_are_alone rules caller s (kept calls rs) zones have blind away;
      by_visibility = λ caller blind invisible. ap (replies_to caller) run.as_machine ∙ blind_callers_are_alone rules caller s (kept calls rs) zones have blind invisible;
      by_policy = λ caller blind others. ap (replies_to caller) run.as_machine ∙ policies_keep_alone rules caller s (kept calls rs) zones have blind others;
    }

pub run_right : (rules : List Rule) (s : State) (calls : List Call) (rs : List Reply) → AreZones s → AreReceipts s → HaveUpdates calls → CallsAreRight rules s (kept calls rs)
run_right rules s calls rs zones receipts has = calls_are_right rules s (kept calls rs) zones receipts (kept_have calls rs has)

pub run_told : (holds : State → Type 0) (rules : List Rule) (s : State) (calls : List Call) (rs : List Reply) → AreZones s → AreReceipts s → HaveUpdates calls → IsRun holds rules s calls rs
    → AnswersAreRight rules s (kept calls rs) (given calls rs)
run_told holds rules s calls rs zones receipts has run =
    subst (AnswersAreRight rules s (kept calls rs)) (sym run.as_machine) (answers_are_right rules s (kept calls rs) zones receipts (kept_have calls rs has))

-- what follows of a value follows of an answer
pub of_ok : {X E : Type 0} (P Q : X → Type 0) → ((x : X) → P x → Q x) → (r : Result X E) → IfOk r P → IfOk r Q
of_ok P Q f (Ok x) p = f x p
of_ok P Q f (Err e) p = tt

pub all_ok : {X E : Type 0} (Q : X → Type 0) → ((x : X) → Q x) → (r : Result X E) → IfOk r Q
all_ok Q f (Ok x) = f x
all_ok Q f (Err e) = tt

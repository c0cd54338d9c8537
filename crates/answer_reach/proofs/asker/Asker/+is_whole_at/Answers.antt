use Rattle.std.proofs.Common.{◌≡◌, Some, sym, ◌∙◌}
use Rattle.std.proofs.lemmas.Result.{IfOk-weaker}
use Rattle.dns_names.specs.Labels.{parent_of}
use Rattle.answer_reach.proofs.TrialLemmas.{whole_out, whole_not, whole_top, whole_up}
use Rattle.answer_reach.proofs.asker.Asker.+is_whole_at.Goals as goal

pub returns-then-not-is_inside : goal.returns-then-not-is_inside
returns-then-not-is_inside t c = whole_out c.args.self.now.index.now c.args.trial.now c.args.name.now (sym c.is_inside.ensures ∙ c.if-not-is_inside.true)

pub returns-then-not-branch : goal.returns-then-not-branch
returns-then-not-branch t c =
    whole_not c.args.self.now.index.now c.args.trial.now c.args.name.now (sym c.is_inside.ensures ∙ c.if-not-is_inside.false) (sym c.in_ok-both_agree.ensures ∙ c.if-not-branch.true)

pub returns-in-Some : goal.returns-in-Some
returns-in-Some t c =
    let up : parent_of c.args.name.now ≡ Some c.in-Some.above = sym c.in_ok-above.ensures ∙ c.in-Some.is in
    let same = whole_up c.args.self.now.index.now c.args.trial.now c.args.name.now c.in-Some.above up (sym c.is_inside.ensures ∙ c.if-not-is_inside.false) (sym c.in_ok-both_agree.ensures ∙ c.if-not-branch.false) in
    IfOk-weaker c.is_whole_at.result _ _ (λ b e. e ∙ same) c.is_whole_at.ensures

pub returns-in-None : goal.returns-in-None
returns-in-None t c =
    whole_top c.args.self.now.index.now c.args.trial.now c.args.name.now (sym c.in_ok-above.ensures ∙ c.in-None.is) (sym c.is_inside.ensures ∙ c.if-not-is_inside.false) (sym c.in_ok-both_agree.ensures ∙ c.if-not-branch.false)

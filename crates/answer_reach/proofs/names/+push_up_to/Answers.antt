use Rattle.std.proofs.Common.{◌≡◌, List, [], ◌∷◌, ◌++◌, Some, true, false, sym, ap, ◌∙◌, append-nil}
use Rattle.dns_names.specs.Labels.{is_within, parent_of}
use Rattle.zone_answers.specs.Answers.{Name}
use Rattle.zone_answers.specs.ChangeTests.{up_to}
use Rattle.zone_answers.proofs.KnownLemmas.{up_to_none, up_to_more, if_same}
use Rattle.answer_reach.proofs.names.+push_up_to.Goals as goal

pub returns-then-not-is_within : goal.returns-then-not-is_within
returns-then-not-is_within t c =
    let names = c.args.names.now.items in
    let off : is_within c.args.name.now c.args.origin.now ≡ false = sym c.is_within.ensures.value ∙ c.if-not-is_within.true in
    sym (append-nil names) ∙ ap (λ (l : List Name). names ++ l) (sym (up_to_none c.args.origin.now c.args.name.now off))

pub returns-in-Some : goal.returns-in-Some
returns-in-Some t c =
    let names = c.args.names.now.items in
    let on : is_within c.args.name.now c.args.origin.now ≡ true = sym c.is_within.ensures.value ∙ c.if-not-is_within.false in
    let above : parent_of c.args.name.now ≡ Some c.in-Some.above = sym c.in_ok-above.ensures ∙ c.in-Some.is in
    if_same c.push_up_to.result _ _ _ c.push_up_to.ensures
    (ap (λ (l : List Name). l ++ up_to c.args.origin.now c.in-Some.above) (c.in_ok-push.ensures.items ∙ ap (λ (n : Name). names ++ n ∷ []) c.in_ok-try_copy.ensures)
    ∙ up_to_more c.args.origin.now c.args.name.now c.in-Some.above names on above)

use Rattle.std.proofs.Common.{◌∙◌, sym}
use Rattle.zone_answers.proofs.EncloserLemmas.{no_encloser, encloser_here, encloser_above}
use Rattle.zone_answers.proofs.enclosers.+encloser_key.Goals as goal

pub returns-then-is_empty : goal.returns-then-is_empty
returns-then-is_empty t c = λ name is. no_encloser c.args.near.now name c.args.key.now is (sym c.is_empty.ensures ∙ c.if-is_empty.true)

pub returns-then-any_within : goal.returns-then-any_within
returns-then-any_within t c = λ name is.
    encloser_here c.args.near.now c.args.key.now c.parent_key-above.result.now (sym c.is_empty.ensures ∙ c.if-is_empty.false) c.parent_key-above.ensures.above name is
    (sym c.any_within.ensures ∙ c.if-any_within.true)

pub returns : goal.returns
returns t c = λ name is.
    encloser_above c.args.near.now c.args.key.now c.parent_key-above.result.now (sym c.is_empty.ensures ∙ c.if-is_empty.false) c.parent_key-above.ensures.above name is
    (sym c.any_within.ensures ∙ c.if-any_within.false) _ c.encloser_key.ensures

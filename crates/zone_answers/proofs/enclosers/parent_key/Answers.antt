use Rattle.std.proofs.Common.{arith}
use Rattle.zone_answers.proofs.EncloserLemmas.{left_first, left_on, left_zero}
use Rattle.zone_answers.proofs.enclosers.parent_key.Goals as goal

pub loop-octet-init : goal.loop-octet-init
loop-octet-init c = (
  omega (arith, c.in-Some.ensures.cases),
  λ label labels is. left_first label labels c.args.key.now c.in-Some.rest.now c.in-Some.field-0-0.now is c.in-Some.ensures.cases.0,
)

pub returns-then-octet-eq0-clause-above : goal.returns-then-octet-eq0-clause-above
returns-then-octet-eq0-clause-above c = λ label labels is.
    left_zero label labels c.loop-octet.rest.now c.in-Some-split_last.front.now c.in-Some-split_last.octet.now (c.loop-octet.invariant.1 label labels is) c.in-Some-split_last.ensures.cases.0 c.if-octet-eq0.true

pub loop-octet-preserved : goal.loop-octet-preserved
loop-octet-preserved c = (
  omega (arith, c.loop-octet.invariant.0, c.in-Some-split_last.ensures.cases),
  λ label labels is.
      left_on label labels c.loop-octet.rest.now c.in-Some-split_last.front.now c.in-Some-split_last.octet.now (c.loop-octet.invariant.1 label labels is) c.in-Some-split_last.ensures.cases.0 c.if-octet-eq0.false,
)

use Rattle.std.proofs.Common.{arith}
use Rattle.office_core.proofs.PassedLemmas.{passed_start}
use Rattle.office_core.proofs.changes.passed_on.Goals as goal

pub returns-clause-start : goal.returns-clause-start
returns-clause-start g c = λ honest s held holds at start.
    passed_start c.args.grants.now c.requires c.args.from c.most_passed-most.result held.changes c.args.began c.past.result c.in_ok-passed.passed (c.in_ok-passed.ensures.passed honest s held holds at)
    (c.most_passed-most.ensures (let some = c.if-most-eq0.false in omega (arith, some))) c.past.ensures start

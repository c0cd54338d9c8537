use Rattle.std.proofs.Common.{subst}
use Rattle.policy_tools.specs.FreeNames.{IsFreeChild, IsFreeBelow}
use Rattle.policy_tools.proofs.NameGroupLemmas.{adds_none, child_among, child_alike}
use Rattle.policy_tools.proofs.name_groups.add_below.Goals as goal

pub returns-in-None : goal.returns-in-None
returns-in-None c = adds_none c.args.rules.now c.args.top.now c.args.rows.now.items (subst (IsFreeChild c.args.rules.now c.args.top.now) c.in-None.is c.in_ok-child.ensures)

pub add_below_at-requires-clause-among : goal.add_below_at-requires-clause-among
add_below_at-requires-clause-among c =
    let free : IsFreeBelow c.args.rules.now c.args.top.now c.in-Some.child = rw c.in-Some.is at c.in_ok-child.ensures in
    rw c.requires.rules (child_among c.args.rules.now c.args.top.now c.in-Some.child c.requires.top free)

pub add_below_at-requires-clause-alike : goal.add_below_at-requires-clause-alike
add_below_at-requires-clause-alike c =
    let free : IsFreeBelow c.args.rules.now c.args.top.now c.in-Some.child = rw c.in-Some.is at c.in_ok-child.ensures in
    rw c.requires.rules (λ other among. child_alike c.args.rules.now other c.args.top.now c.in-Some.child free among)

pub returns-in-Some : goal.returns-in-Some
returns-in-Some c = rw c.requires.rules at c.add_below_at.ensures

use Rattle.std.proofs.Common.{Some, None}
use Rattle.policy_tools.specs.FreeNames.{IsFreeChild}
use Rattle.policy_tools.proofs.ChangeLemmas.{adds_no_changes, like_child}
use Rattle.policy_tools.proofs.changes.add_below.Goals as goal

pub add_group-requires-clause-represents : goal.add_group-requires-clause-represents
add_group-requires-clause-represents c =
    let found : IsFreeChild c.args.versions.places.now c.args.top.now (Some c.in-Some.child) = rw c.in-Some.is at c.in_ok-child.ensures in
    rw c.in_ok-try_copy-in-Some.ensures
    (like_child c.args.versions.places.now c.args.versions.old.now c.args.versions.new.now c.args.top.now c.in-Some.child c.requires.versions c.requires.top found)

pub returns-in_ok-try_copy-in-Some : goal.returns-in_ok-try_copy-in-Some
returns-in_ok-try_copy-in-Some c = rw c.in_ok-try_copy-in-Some.ensures at c.add_group.ensures

pub returns-in-None : goal.returns-in-None
returns-in-None c =
    let found : IsFreeChild c.args.versions.places.now c.args.top.now None = rw c.in-None.is at c.in_ok-child.ensures in
    adds_no_changes c.args.versions.places.now c.args.versions.old.now c.args.versions.new.now c.args.top.now c.args.rows.now.items c.requires.versions found

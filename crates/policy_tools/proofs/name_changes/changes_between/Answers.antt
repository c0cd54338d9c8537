use Rattle.std.proofs.Common.{[]}
use Rattle.policy_tools.specs.Changes.{AreChangeRows, callers_of}
use Rattle.policy_tools.proofs.ChangeLemmas.{new_seen, old_seen, no_rows}
use Rattle.policy_tools.proofs.name_changes.changes_between.Goals as goal

pub add_callers-requires : goal.add_callers-requires
add_callers-requires c = rw c.deref.ensures.value (new_seen c.args.old.now c.args.new.now)

pub add_callers-requires-2 : goal.add_callers-requires-2
add_callers-requires-2 c = rw c.deref-2.ensures.value (old_seen c.args.old.now c.args.new.now)

pub returns : goal.returns
returns c =
    let old = c.args.old.now in
    let new = c.args.new.now in
    let others = c.between-others.result in
    let first = rw c.deref.ensures.value at c.in_ok-add_callers.ensures in
    let second = rw c.deref-2.ensures.value at c.in_ok-add_callers-2.ensures in
    let none : AreChangeRows old new others [] c.new-named.result.items = rw c.new-named.ensures.items (no_rows old new others) in
    record { others = c.between-others.ensures; rows = second (callers_of new) (first [] none) }

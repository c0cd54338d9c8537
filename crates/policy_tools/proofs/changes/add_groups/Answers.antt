use Rattle.std.proofs.Common.{List}
use Rattle.policy_tools.specs.declared.changes.GroupChanges.{GroupChanges}
use Rattle.policy_tools.specs.declared.name_groups.NameGroup.TheVariants.{Exactly, Below}
use Rattle.policy_tools.specs.Claims.{rules_of}
use Rattle.policy_tools.specs.Changes.{AddsChanges}
use Rattle.policy_tools.proofs.NameGroupLemmas.{on_ok}
use Rattle.policy_tools.proofs.ChangeLemmas.{like_top}
use Rattle.policy_tools.proofs.changes.add_groups.Goals as goal

pub add_group-requires-clause-represents : goal.add_group-requires-clause-represents
add_group-requires-clause-represents c = rw c.in_ok-try_copy.ensures (like_top c.args.versions.old.now c.args.versions.new.now c.args.top.now c.requires.top c.requires.name)

pub returns : goal.returns
returns c =
    let old = rules_of c.args.versions.old.now in
    let new = rules_of c.args.versions.new.now in
    let top = c.args.top.now in
    let rows = c.args.rows.now.items in
    let middle = c.add_group.new.rows.items in
    let after = c.add_below.new.rows.items in
    let exact : AddsChanges old new (Exactly top) rows middle = rw c.in_ok-try_copy.ensures at c.in_ok-add_group.ensures in
    on_ok (AddsChanges old new (Below top) middle after) ((m : List GroupChanges) × AddsChanges old new (Exactly top) rows m × AddsChanges old new (Below top) m after)
    (λ below. (middle, exact, below)) c.add_below.result c.add_below.ensures

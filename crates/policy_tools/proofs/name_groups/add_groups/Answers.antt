use Rattle.std.proofs.Common.{List, subst}
use Rattle.policy_tools.specs.declared.name_groups.GroupRights.{GroupRights}
use Rattle.policy_tools.specs.declared.name_groups.NameGroup.TheVariants.{Exactly, Below}
use Rattle.grant_policy.specs.declared.rule.Rule.{Rule}
use Rattle.policy_tools.specs.NameGroups.{AddsGroup}
use Rattle.policy_tools.proofs.ClaimLemmas.{few_claims}
use Rattle.policy_tools.proofs.NameGroupLemmas.{on_ok}
use Rattle.policy_tools.proofs.name_groups.add_groups.Goals as goal

pub add_exactly-requires-clause-few : goal.add_exactly-requires-clause-few
add_exactly-requires-clause-few c = few_claims c.args.claims.now c.args.rules.now c.requires.rules c.requires.few

pub add_exactly-requires-clause-top : goal.add_exactly-requires-clause-top
add_exactly-requires-clause-top c = rw c.requires.rules c.requires.top

pub returns : goal.returns
returns c =
    let rules = c.args.rules.now in
    let top = c.args.top.now in
    let old = c.args.rows.now.items in
    let middle = c.add_exactly.new.rows.items in
    let new = c.add_below.new.rows.items in
    let exact = subst (λ (l : List Rule). AddsGroup l (Exactly top) old middle) c.requires.rules c.in_ok-add_exactly.ensures in
    on_ok (AddsGroup rules (Below top) middle new) ((m : List GroupRights) × AddsGroup rules (Exactly top) old m × AddsGroup rules (Below top) m new)
    (λ below. (middle, exact, below)) c.add_below.result c.add_below.ensures

use Rattle.policy_tools.specs.declared.name_groups.GroupRights.{GroupRights}
use Rattle.policy_tools.specs.NameGroups.{IsRowOf, HasGrant, HasNoGrant}
use Rattle.policy_tools.proofs.GroupRowLemmas.{top_there, top_added, rows_none, rows_complete}
use Rattle.policy_tools.proofs.name_groups.rows_at.Goals as goal

pub add_groups-requires-clause-top : goal.add_groups-requires-clause-top
add_groups-requires-clause-top c = (top_there c.args.rules.now c.args.tops.now c.requires.tops c.loop-top.top-index c.top-item.result c.loop-top-test.true c.top-item.is).0

pub add_groups-requires-clause-name : goal.add_groups-requires-clause-name
add_groups-requires-clause-name c = (top_there c.args.rules.now c.args.tops.now c.requires.tops c.loop-top.top-index c.top-item.result c.loop-top-test.true c.top-item.is).1

pub loop-top-init : goal.loop-top-init
loop-top-init c =
    let rules = c.args.rules.now in
    rw c.new-rows.ensures.items (rows_none (λ (row : GroupRights). row.group) (IsRowOf rules) (HasGrant rules) (HasNoGrant rules) rules)

pub loop-top-preserved : goal.loop-top-preserved
loop-top-preserved c =
    let both = c.in_ok-add_groups.ensures in
    let rules = c.args.rules.now in
    top_added (λ (row : GroupRights). row.group) (IsRowOf rules) (HasGrant rules) (HasNoGrant rules) rules c.args.tops.now c.loop-top.top-index c.top-item.result c.loop-top.rows.items both.0 c.add_groups.new.rows.items
    c.requires.tops c.loop-top-test.true c.top-item.is both.1 both.2 c.loop-top.invariant

pub returns : goal.returns
returns c =
    let rules = c.args.rules.now in
    let rows = c.loop-top.invariant in
    record {
      rights = rows.rights;
      granted = rows.lists;
      complete = rows_complete (λ (row : GroupRights). row.group) (IsRowOf rules) (HasGrant rules) (HasNoGrant rules) rules c.args.tops.now c.loop-top.top-index c.loop-top.rows.items c.requires.tops c.loop-top-test.false rows;
      ordered = rows.ordered;
    }

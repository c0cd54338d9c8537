use Rattle.std.proofs.Common.{List, ◌++◌, subst}
use Rattle.grant_policy.specs.declared.rule.Rule.{Rule}
use Rattle.policy_tools.specs.declared.changes.GroupChanges.{GroupChanges}
use Rattle.policy_tools.specs.Claims.{rules_of}
use Rattle.policy_tools.specs.NameGroups.{AreTops}
use Rattle.policy_tools.specs.Changes.{IsChangeRow, HasChange, AreAgreed}
use Rattle.policy_tools.proofs.ChangeLemmas.{tops_placed}
use Rattle.policy_tools.proofs.GroupRowLemmas.{top_there, top_added, rows_none, rows_complete}
use Rattle.policy_tools.proofs.changes.rows_at.Goals as goal

pub add_groups-requires-clause-top : goal.add_groups-requires-clause-top
add_groups-requires-clause-top c =
    let both = rules_of c.args.versions.old.now ++ rules_of c.args.versions.new.now in
    let tops = c.args.tops.now in
    let are = tops_placed both tops (subst (λ (l : List Rule). AreTops l tops) c.requires.versions.places c.requires.tops) in
    (top_there both tops are c.loop-top.top-index c.top-item.result c.loop-top-test.true c.top-item.is).0

pub add_groups-requires-clause-name : goal.add_groups-requires-clause-name
add_groups-requires-clause-name c = (top_there c.args.versions.places.now c.args.tops.now c.requires.tops c.loop-top.top-index c.top-item.result c.loop-top-test.true c.top-item.is).1

pub loop-top-init : goal.loop-top-init
loop-top-init c =
    let old = rules_of c.args.versions.old.now in
    let new = rules_of c.args.versions.new.now in
    rw c.new-rows.ensures.items (rows_none (λ (row : GroupChanges). row.group) (IsChangeRow old new) (HasChange old new) (AreAgreed old new) (old ++ new))

pub loop-top-preserved : goal.loop-top-preserved
loop-top-preserved c =
    let old = rules_of c.args.versions.old.now in
    let new = rules_of c.args.versions.new.now in
    let tops = c.args.tops.now in
    let are = tops_placed (old ++ new) tops (subst (λ (l : List Rule). AreTops l tops) c.requires.versions.places c.requires.tops) in
    let both = c.in_ok-add_groups.ensures in
    top_added (λ (row : GroupChanges). row.group) (IsChangeRow old new) (HasChange old new) (AreAgreed old new) (old ++ new) tops c.loop-top.top-index c.top-item.result c.loop-top.rows.items both.0 c.add_groups.new.rows.items
    are c.loop-top-test.true c.top-item.is both.1 both.2 c.loop-top.invariant

pub returns : goal.returns
returns c =
    let old = rules_of c.args.versions.old.now in
    let new = rules_of c.args.versions.new.now in
    let tops = c.args.tops.now in
    let are = tops_placed (old ++ new) tops (subst (λ (l : List Rule). AreTops l tops) c.requires.versions.places c.requires.tops) in
    let rows = c.loop-top.invariant in
    record {
      changes = rows.rights;
      some = rows.lists;
      complete = rows_complete (λ (row : GroupChanges). row.group) (IsChangeRow old new) (HasChange old new) (AreAgreed old new) (old ++ new) tops c.loop-top.top-index c.loop-top.rows.items are c.loop-top-test.false rows;
      ordered = rows.ordered;
    }

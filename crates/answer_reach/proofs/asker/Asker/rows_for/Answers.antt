use Rattle.std.proofs.Common.{[]}
use Rattle.std.specs.List.{flat_map}
use Rattle.zone_core.specs.Sets.{listing}
use Rattle.zone_core.proofs.BehindLemmas.{behind_all, behind_more, flat_map_push}
use Rattle.answer_reach.specs.ReachTests.{rows_at}
use Rattle.answer_reach.proofs.asker.Asker.rows_for.Goals as goal

pub loop-name-preserved : goal.loop-name-preserved
loop-name-preserved c =
    let here = rows_at c.args.self.now.rights.now.rules c.args.self.now.rights.now.caller c.args.self.now.index.now.origin (listing c.args.self.now.index.now.records) c.args.lists.now in
    let name = c.name-item.result in
    behind_more (flat_map here) [] c.args.names.now c.loop-name.name-index name (here name) (flat_map_push here name) c.loop-name-test.true c.name-item.is c.loop-name.invariant c.in_ok-push_rows.ensures

pub returns : goal.returns
returns c =
    let here = rows_at c.args.self.now.rights.now.rules c.args.self.now.rights.now.caller c.args.self.now.index.now.origin (listing c.args.self.now.index.now.records) c.args.lists.now in
    behind_all (flat_map here) [] c.args.names.now c.loop-name.name-index c.loop-name.invariant c.loop-name-test.false

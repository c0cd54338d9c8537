use Rattle.std.proofs.Common.{[]}
use Rattle.std.specs.List.{flat_map}
use Rattle.zone_core.specs.Sets.{listing}
use Rattle.zone_core.proofs.BehindLemmas.{behind_all, behind_more, flat_map_push}
use Rattle.zone_answers.specs.ChangeTests.{rows_at}
use Rattle.zone_answers.proofs.changes.rows_for.Goals as goal

pub loop-name-preserved : goal.loop-name-preserved
loop-name-preserved c =
    let here = rows_at c.args.old.now.origin (listing c.args.old.now.records) (listing c.args.new.now.records) in
    let name = c.name-item.result in
    behind_more (flat_map here) [] c.args.names.now c.loop-name.name-index name (here name) (flat_map_push here name) c.loop-name-test.true c.name-item.is c.loop-name.invariant c.in_ok-push_changed.ensures

pub returns : goal.returns
returns c =
    let here = rows_at c.args.old.now.origin (listing c.args.old.now.records) (listing c.args.new.now.records) in
    behind_all (flat_map here) [] c.args.names.now c.loop-name.name-index c.loop-name.invariant c.loop-name-test.false

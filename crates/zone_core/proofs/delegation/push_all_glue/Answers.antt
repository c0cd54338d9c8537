use Rattle.std.proofs.Common.{sym}
use Rattle.std.specs.List.{flat_map}
use Rattle.std.proofs.lemmas.List.{append-nil}
use Rattle.zone_core.specs.Delegations.{glue_additions}
use Rattle.zone_core.proofs.BehindLemmas.{behind_all, behind_more, flat_map_push}
use Rattle.zone_core.proofs.delegation.push_all_glue.Goals as goal

pub loop-server-init : goal.loop-server-init
loop-server-init c = sym (append-nil c.args.operations.now.items)

pub loop-server-preserved : goal.loop-server-preserved
loop-server-preserved c =
    let made = glue_additions c.args.child.now c.args.ttl in
    let x = c.server-item.result in
    behind_more (flat_map made) c.args.operations.now.items c.args.servers.now c.loop-server.server-index x _ (flat_map_push made x) c.loop-server-test.true c.server-item.is c.loop-server.invariant c.in_ok-push_glue.ensures

pub returns : goal.returns
returns c = behind_all (flat_map (glue_additions c.args.child.now c.args.ttl)) c.args.operations.now.items c.args.servers.now c.loop-server.server-index c.loop-server.invariant c.loop-server-test.false

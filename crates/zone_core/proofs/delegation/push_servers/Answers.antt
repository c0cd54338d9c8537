use Rattle.std.proofs.Common.{map, [], ◌∷◌, ◌++◌, sym, ap, ◌∙◌}
use Rattle.std.proofs.lemmas.List.{append-nil, map_push}
use Rattle.zone_core.specs.declared.update.Operation.{Operation}
use Rattle.zone_core.specs.Delegations.{server_addition}
use Rattle.zone_core.proofs.BehindLemmas.{behind_all, behind_more}
use Rattle.zone_core.proofs.delegation.push_servers.Goals as goal

pub loop-server-init : goal.loop-server-init
loop-server-init c = sym (append-nil c.args.operations.now.items)

pub loop-server-preserved : goal.loop-server-preserved
loop-server-preserved c =
    let made = server_addition c.args.child.now c.args.ttl in
    let x = c.server-item.result in
    behind_more (map made) c.args.operations.now.items c.args.servers.now c.loop-server.server-index x _ (λ xs. map_push made xs x) c.loop-server-test.true c.server-item.is c.loop-server.invariant
    (c.in_ok-push.ensures.items ∙ ap (λ (op : Operation). c.loop-server.operations.items ++ op ∷ []) c.in_ok-server_addition.ensures)

pub returns : goal.returns
returns c = behind_all (map (server_addition c.args.child.now c.args.ttl)) c.args.operations.now.items c.args.servers.now c.loop-server.server-index c.loop-server.invariant c.loop-server-test.false

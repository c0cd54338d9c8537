use Rattle.std.proofs.Common.{[], ◌∷◌, ◌++◌, map, ap, ◌∙◌}
use Rattle.std.proofs.lemmas.List.{map_push}
use Rattle.zone_core.specs.declared.report.DelegatedServer.{DelegatedServer}
use Rattle.zone_core.specs.Delegations.{server_of}
use Rattle.zone_core.proofs.BehindLemmas.{behind_all, behind_more}
use Rattle.zone_core.proofs.report.servers_of.Goals as goal

pub loop-name-preserved : goal.loop-name-preserved
loop-name-preserved c =
    let server = server_of c.args.records.now c.args.child.now in
    let name = c.name-item.result in
    behind_more (map server) [] c.args.names.now c.loop-name.name-index name _ (λ names. map_push server names name) c.loop-name-test.true c.name-item.is c.loop-name.invariant
    (c.in_ok-push.ensures.items ∙ ap (λ (s : DelegatedServer). c.loop-name.servers.items ++ s ∷ []) c.in_ok-server_of.ensures)

pub returns : goal.returns
returns c = behind_all (map (server_of c.args.records.now c.args.child.now)) [] c.args.names.now c.loop-name.name-index c.loop-name.invariant c.loop-name-test.false

use Rattle.std.proofs.Common.{sym}
use Rattle.std.specs.List.{flat_map}
use Rattle.std.proofs.lemmas.List.{append-nil}
use Rattle.dns_data.specs.declared.record.Record.{Record}
use Rattle.zone_core.proofs.BehindLemmas.{behind_all, behind_more, flat_map_push}
use Rattle.zone_answers.specs.Answers.{addresses_in}
use Rattle.zone_answers.proofs.answer.push_all_addresses.Goals as goal

pub loop-server-init : goal.loop-server-init
loop-server-init c = sym (append-nil c.args.rows.now.items)

pub loop-server-preserved : goal.loop-server-preserved
loop-server-preserved c =
    let here = λ (r : Record). addresses_in c.args.records.now r.rdata in
    let r = c.server-item.result in
    behind_more (flat_map here) c.args.rows.now.items c.args.referral.now.servers.now c.loop-server.server-index r (here r) (flat_map_push here r) c.loop-server-test.true c.server-item.is c.loop-server.invariant c.in_ok-push_addresses.ensures

pub returns : goal.returns
returns c =
    let here = λ (r : Record). addresses_in c.args.records.now r.rdata in
    behind_all (flat_map here) c.args.rows.now.items c.args.referral.now.servers.now c.loop-server.server-index c.loop-server.invariant c.loop-server-test.false

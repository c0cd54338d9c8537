use Rattle.std.proofs.Common.{◌∙◌}
use Rattle.zone_core.specs.Views.{set_ttl}
use Rattle.zone_core.proofs.MinTtlLemmas.{one_of, known_more}
use Rattle.zone_core.proofs.build.set_ttls.Goals as goal

pub loop-i-preserved : goal.loop-i-preserved
loop-i-preserved c =
    let rs = c.args.records.now in
    let i = c.loop-i.i in
    let d = one_of rs i c.loop-i-test.true in
    c.in_ok-push.ensures.items ∙ known_more (set_ttl rs) rs i c.loop-i.ttls.items c.set_ttl-ttl.result d c.loop-i.invariant c.loop-i-test.true (c.set_ttl-ttl.ensures d)

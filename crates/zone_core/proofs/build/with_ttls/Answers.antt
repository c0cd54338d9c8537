use Rattle.std.proofs.Common.{rules}
use Rattle.zone_core.proofs.MinTtlLemmas.{given_none, given_more}
use Rattle.zone_core.proofs.build.with_ttls.Goals as goal

pub loop-i-init : goal.loop-i-init
loop-i-init c = given_none c.args.records.items

pub loop-i-preserved : goal.loop-i-preserved
loop-i-preserved c =
    given_more c.args.records.items c.args.ttls.now c.loop-i.i c.loop-i.records.items c.index_mut.result.now c.index-ttls-i.result c.loop-i.invariant (search rules) c.requires (search rules) c.index-ttls-i.is

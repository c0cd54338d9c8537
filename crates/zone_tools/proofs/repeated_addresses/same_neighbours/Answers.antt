use Rattle.std.proofs.Common.{◌∙◌, ◌++◌, sym, arith}
use Rattle.zone_tools.specs.SharedAddresses.{if_same_number}
use Rattle.zone_tools.proofs.RepeatedLemmas.{neighbours_at}
use Rattle.zone_tools.proofs.repeated_addresses.same_neighbours.Goals as goal

pub loop-at-preserved : goal.loop-at-preserved
loop-at-preserved c =
    let rs = c.args.records.now in
    let step = neighbours_at rs c.loop-at.at c.index-records-at.result c.index-records-at-in-loop-at.result c.loop-at.invariant.0 c.loop-at-test.true in
    (omega arith, (rw (c.loop-at.invariant.1, c.index-records-at.is, c.index-records-at-in-loop-at.is) at c.in_ok-push_if_same.ensures) ∙ sym step)

use Rattle.std.proofs.Common.{rules}
use Rattle.std.proofs.lemmas.List.Sorted.{IsPartitionPoint-from_clause}
use Rattle.grant_policy.specs.Boundaries.{is_reached}
use Rattle.grant_policy.proofs.RegionLemmas.{reached_parted, region_is}
use Rattle.grant_policy.proofs.boundaries.Boundaries.region.Goals as goal

pub returns : goal.returns
returns c =
    let bs = c.self.inside.sorted.items in
    let key = c.args.key.now in
    let point = IsPartitionPoint-from_clause (is_reached key) bs c.partition_point.result (rw c.deref.ensures.value at c.partition_point.ensures.partitioned) (reached_parted bs c.self.invariant key) (λ a r q k. search rules) in
    rw (← c.self.view_is) (region_is bs c.self.invariant key c.partition_point.result (rw c.deref.ensures.value at c.partition_point.ensures.bound) point)

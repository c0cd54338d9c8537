use Rattle.std.proofs.Common.{rules, ◌≡◌, true, false, sym, subst}
use Rattle.std.specs.Ordering.{is_lt}
use Rattle.std.specs.List.Sorted.{IsPartitionPoint, IsPartitionedBy}
use Rattle.std.proofs.lemmas.List.Sorted.{IsPartitionPoint-from_clause}
use Rattle.zone_core.specs.Sets.{record_order, set_of, put}
use Rattle.zone_core.specs.Nodes.{Becomes}
use Rattle.zone_core.proofs.RuleLemmas.{put_node}
use Rattle.zone_core.proofs.effect.put.Goals as goal

pub returns : goal.returns
returns c =
    let r = c.args.rr.now in
    let xs = c.without-others.result.items in
    let i = c.partition_point-place.result in
    let is = put_node r c.args.node.items c.requires xs i c.without-others.ensures (search rules) (λ parts.
    subst (λ ys. IsPartitionPoint (λ x. is_lt (record_order x r) ≡ true) (λ x. is_lt (record_order x r) ≡ false) ys i) c.deref.ensures.value
    (IsPartitionPoint-from_clause (λ x. is_lt (record_order x r)) c.deref.result.now i c.partition_point-place.ensures.partitioned (subst (IsPartitionedBy (λ x. is_lt (record_order x r))) (sym c.deref.ensures.value) parts) (λ a b q k. search rules))) in
    subst (λ ys. Becomes r.owner ys (put (set_of c.args.node.items) r)) (sym c.in_ok-insert_copy.ensures) is

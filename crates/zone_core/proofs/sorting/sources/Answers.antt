use Rattle.std.proofs.Common.{subst, ◌∙◌}
use Rattle.std.specs.List.Sorted.{IsPermutation}
use Rattle.zone_core.proofs.PositionLemmas.{rows_sorted, rows_set}
use Rattle.zone_core.proofs.sorting.sources.Goals as goal

pub returns-clause-order : goal.returns-clause-order
returns-clause-order c =
    let prefixes = c.deref.result.now in
    let positions = c.sorted_positions.result.items in
    let moved = subst (λ ps. IsPermutation ps positions) c.in_ok-positions.ensures c.sorted_positions.ensures.permutation in
    rows_sorted c.args.records.now prefixes c.in-Some.other.now c.args.shared c.requires c.reveal_records.ensures (c.deref.ensures.value ∙ c.in_ok-prefixes.ensures) positions moved c.sorted_positions.ensures.order

pub returns-clause-set : goal.returns-clause-set
returns-clause-set c =
    let prefixes = c.deref.result.now in
    let positions = c.sorted_positions.result.items in
    let moved = subst (λ ps. IsPermutation ps positions) c.in_ok-positions.ensures c.sorted_positions.ensures.permutation in
    rows_set c.args.records.now prefixes c.in-Some.other.now c.args.shared c.requires c.reveal_records.ensures (c.deref.ensures.value ∙ c.in_ok-prefixes.ensures) positions moved c.sorted_positions.ensures.order

use Rattle.std.proofs.Common.{rules}
use Rattle.zone_core.specs.Views.{position_order}
use Rattle.zone_core.proofs.PositionLemmas.{place_ranks, sorted_by}
use Rattle.zone_core.proofs.sorting.sorted_positions.Goals as goal

pub returns-clause-order : goal.returns-clause-order
returns-clause-order c =
    let rs = c.args.records.now in
    let prefixes = c.args.prefixes.now in
    let other = c.args.other.now in
    sorted_by (position_order rs prefixes other) c.sort_unstable_by.new.self.items (place_ranks rs prefixes other) c.sort_unstable_by.ensures.sorted (λ a r f' called. search rules)

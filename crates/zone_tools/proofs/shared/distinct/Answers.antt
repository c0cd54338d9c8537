use Rattle.std.proofs.Common.{rules}
use Rattle.std.specs.Ordering.{eq_by_cmp}
use Rattle.std.proofs.lemmas.Fn.{dedup_same}
use Rattle.std.proofs.lemmas.List.Sorted.{IsPermutation-sym}
use Rattle.zone_tools.specs.SharedAddresses.{address_order}
use Rattle.zone_tools.proofs.PointerLemmas.{sorted_by_calls}
use Rattle.zone_tools.proofs.SharedLemmas.{address_ranks, distinct_are}
use Rattle.zone_tools.proofs.shared.distinct.Goals as goal

pub returns : goal.returns
returns c =
    let all = c.args.records.items in
    let sorted = c.sort_by.new.self.items in
    let distinct = c.dedup_by.new.self.items in
    let there = c.in_ok-sort_by.ensures.permutation in
    distinct_are all sorted distinct there (IsPermutation-sym all sorted there)
    (sorted_by_calls address_order sorted address_ranks c.in_ok-sort_by.ensures.sorted (λ a r f' called. search rules))
    (dedup_same _ (eq_by_cmp address_order) _ (λ x y b f' x' y' k. search rules) sorted distinct c.dedup_by.ensures.filtered)

use Rattle.std.proofs.lemmas.Fn.{dedup_same}
use Rattle.std.proofs.lemmas.List.Sorted.{IsPermutation-sym}
use Rattle.std.proofs.Common.{rules}
use Rattle.zone_tools.specs.Pointers.{pointer_order}
use Rattle.zone_tools.proofs.PointerLemmas.{before_ranks, same_owner, sorted_by_calls, firsts_are}
use Rattle.zone_tools.proofs.pointers.firsts.Goals as goal

pub returns : goal.returns
returns c =
    let all = c.args.pointers.items in
    let sorted = c.sort_by.new.self.items in
    let firsts = c.dedup_by.new.self.items in
    let there = c.in_ok-sort_by.ensures.permutation in
    firsts_are all sorted firsts there (IsPermutation-sym all sorted there)
    (sorted_by_calls pointer_order sorted before_ranks c.in_ok-sort_by.ensures.sorted (λ a r f' called. search rules))
    (dedup_same _ same_owner _ (λ x y b f' x' y' k. search rules) sorted firsts c.dedup_by.ensures.filtered)

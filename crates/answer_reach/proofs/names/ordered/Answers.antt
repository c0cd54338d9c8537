use Rattle.std.proofs.lemmas.List.Filters.{dedup_is}
use Rattle.std.proofs.lemmas.List.Sorted.{IsPermutation-sym}
use Rattle.dns_names.specs.Order.{same_name}
use Rattle.zone_core.proofs.NameListLemmas.{ordered_are}
use Rattle.answer_reach.proofs.names.ordered.Goals as goal

pub returns : goal.returns
returns c =
    let all = c.args.names.items in
    let sorted = c.sort.new.self.items in
    let names = c.dedup.new.self.items in
    let there = c.in_ok-sort.ensures.permutation in
    ordered_are all sorted names there (IsPermutation-sym all sorted there) c.in_ok-sort.ensures.sorted (dedup_is same_name sorted names c.dedup.ensures.filtered)

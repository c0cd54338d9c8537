use Rattle.std.proofs.Common.{rules, sym}
use Rattle.std.specs.Cmp.Lexicographic.{slice_cmp}
use Rattle.std.specs.Ordering.{nat_cmp, is_le}
use Rattle.std.proofs.lemmas.List.Sorted.{IsPartitionPoint-from_clause}
use Rattle.dns_names.specs.Keys.{key_of}
use Rattle.zone_answers.proofs.PlaceLemmas.{at_by_key, few_tell}
use Rattle.zone_answers.proofs.places.count_at.Goals as goal

pub returns-in-Some-clause-place : goal.returns-in-Some-clause-place
returns-in-Some-clause-place c = λ name is. few_tell c.args.rest.now c.min.result c.in-Some.count name c.args.key.now is (sym c.in-Some.ensures.value)

pub returns-clause-place : goal.returns-clause-place
returns-clause-place c = λ name is.
    let rs = c.args.rest.now in
    let n = c.partition_point.result in
    at_by_key rs n name c.args.key.now is (λ parts.
    IsPartitionPoint-from_clause (λ r. is_le (slice_cmp nat_cmp (key_of r.owner) c.args.key.now)) rs n c.partition_point.ensures.partitioned parts (λ a r q k. search rules))

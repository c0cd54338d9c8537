use Rattle.std.proofs.Common.{rules}
use Rattle.std.specs.Cmp.Lexicographic.{slice_cmp}
use Rattle.std.specs.Ordering.{nat_cmp, is_lt}
use Rattle.std.proofs.lemmas.List.Sorted.{IsPartitionPoint-from_clause}
use Rattle.dns_names.specs.Keys.{key_of}
use Rattle.zone_answers.proofs.PlaceLemmas.{before_by_key}
use Rattle.zone_answers.proofs.places.count_before.Goals as goal

pub returns-clause-place : goal.returns-clause-place
returns-clause-place c = λ name is.
    let rs = c.args.records.now in
    let n = c.partition_point.result in
    before_by_key rs n name c.args.key.now is (λ parts.
    IsPartitionPoint-from_clause (λ r. is_lt (slice_cmp nat_cmp (key_of r.owner) c.args.key.now)) rs n c.partition_point.ensures.partitioned parts (λ a r q k. search rules))

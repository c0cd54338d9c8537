use Rattle.std.proofs.Common.{◌∙◌, rules, arith}
use Rattle.std.specs.Ordering.{is_le}
use Rattle.std.proofs.lemmas.List.Sorted.{IsPartitionPoint-from_clause}
use Rattle.dns_names.specs.Order.{canonical_cmp}
use Rattle.zone_core.proofs.CoverLemmas.{parted}
use Rattle.zone_answers.specs.Answers.{Name}
use Rattle.answer_reach.proofs.RightsLemmas.{last_tells, none_before}
use Rattle.answer_reach.proofs.rights.is_covered.Goals as goal

pub returns-then-count-eq0 : goal.returns-then-count-eq0
returns-then-count-eq0 c =
    let tops = c.args.tops.now in
    let name = c.args.name.now in
    let n = c.partition_point-count.result in
    let point = IsPartitionPoint-from_clause (λ (top : Name). is_le (canonical_cmp top name)) tops n c.partition_point-count.ensures.partitioned (parted tops c.requires name) (λ a r q k. search rules) in
    none_before tops c.requires name n c.partition_point-count.ensures.bound point (omega arith)

pub returns : goal.returns
returns c =
    let tops = c.args.tops.now in
    let name = c.args.name.now in
    let n = c.partition_point-count.result in
    let point = IsPartitionPoint-from_clause (λ (top : Name). is_le (canonical_cmp top name)) tops n c.partition_point-count.ensures.partitioned (parted tops c.requires name) (λ a r q k. search rules) in
    c.is_within.ensures.value ∙ last_tells tops c.requires name n c.partition_point-count.ensures.bound point c.index-tops-count.result (omega arith) c.index-tops-count.is

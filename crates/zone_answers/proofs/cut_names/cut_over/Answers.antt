use Rattle.std.proofs.Common.{◌-◌, rules, sym, ap, ◌∙◌, arith}
use Rattle.std.specs.Ordering.{is_le}
use Rattle.std.proofs.lemmas.List.{get_or_default}
use Rattle.std.proofs.lemmas.List.Sorted.{IsPartitionPoint-from_clause}
use Rattle.dns_names.specs.Labels.{is_within}
use Rattle.dns_names.specs.Order.{canonical_cmp}
use Rattle.zone_core.proofs.BelowLemmas.{Name}
use Rattle.zone_core.proofs.CoverLemmas.{parted, none_over, some_over}
use Rattle.zone_answers.proofs.cut_names.cut_over.Goals as goal

pub returns-then-count-eq0 : goal.returns-then-count-eq0
returns-then-count-eq0 c =
    let cuts = c.args.cuts.now in
    let name = c.args.name.now in
    let n = c.partition_point-count.result in
    let point = IsPartitionPoint-from_clause (λ (cut : Name). is_le (canonical_cmp cut name)) cuts n c.partition_point-count.ensures.partitioned (parted cuts c.requires name) (λ a r q k. search rules) in
    sym (none_over cuts c.requires name n c.partition_point-count.ensures.bound point (λ some d. absurd (omega arith)))

pub returns-then-is_within : goal.returns-then-is_within
returns-then-is_within c =
    let cuts = c.args.cuts.now in
    let name = c.args.name.now in
    let n = c.partition_point-count.result in
    let point = IsPartitionPoint-from_clause (λ (cut : Name). is_le (canonical_cmp cut name)) cuts n c.partition_point-count.ensures.partitioned (parted cuts c.requires name) (λ a r q k. search rules) in
    sym (some_over cuts c.requires name n c.partition_point-count.ensures.bound point c.index-cuts-count.result (omega arith) c.index-cuts-count.is (sym c.is_within.ensures.value ∙ c.if-is_within.true))

pub returns-else-is_within : goal.returns-else-is_within
returns-else-is_within c =
    let cuts = c.args.cuts.now in
    let name = c.args.name.now in
    let n = c.partition_point-count.result in
    let nearest = c.index-cuts-count.result in
    let point = IsPartitionPoint-from_clause (λ (cut : Name). is_le (canonical_cmp cut name)) cuts n c.partition_point-count.ensures.partitioned (parted cuts c.requires name) (λ a r q k. search rules) in
    sym (none_over cuts c.requires name n c.partition_point-count.ensures.bound point (λ some d.
    ap (is_within name) (get_or_default cuts (n - 1) d nearest (omega (arith, c.partition_point-count.ensures.bound)) ∙ sym c.index-cuts-count.is) ∙ sym c.is_within.ensures.value ∙ c.if-is_within.false))

use Rattle.std.proofs.Common.{◌-◌, ◌∙◌, List, rules, length, take, drop, subst}
use Rattle.std.specs.List.Sorted.{IsNonDecreasingBy}
use Rattle.std.specs.Ordering.{is_lt, is_le, ordering_index}
use Rattle.std.specs.List.{filter}
use Rattle.std.specs.Ordering.{is_eq}
use Rattle.std.proofs.Common.{ap, sym}
use Rattle.std.proofs.lemmas.List.Sorted.{IsPartitionPoint-from_clause}
use Rattle.dns_data.specs.declared.record.Record.{Record}
use Rattle.zone_core.proofs.RangeLemmas.{tied_run, rest_is}
use Rattle.zone_answers.proofs.NodeLemmas.{by_type, types_rise, set_of_node}
use Rattle.zone_answers.proofs.places.set_in.Goals as goal

pub returns : goal.returns
returns c = λ rs name order is.
    let node = c.args.node.now in
    let t = c.args.record_type in
    let i = c.partition_point-start.result in
    let n = c.partition_point-count.result in
    let rest = take (length node - i) (drop i node) in
    let rises = subst (λ (xs : List Record). IsNonDecreasingBy (λ (r : Record). ordering_index (by_type t r)) xs) (sym is) (types_rise rs name t order) in
    tied_run (by_type t) node rest i n rises (rest_is node i) c.partition_point-start.ensures.bound c.partition_point-count.ensures.bound
    (λ parts. IsPartitionPoint-from_clause (λ r. is_lt (by_type t r)) node i c.partition_point-start.ensures.partitioned parts (λ a r q k. search rules))
    (λ parts. IsPartitionPoint-from_clause (λ r. is_le (by_type t r)) rest n c.partition_point-count.ensures.partitioned parts (λ a r q k. search rules))
    ∙ ap (filter (λ r. is_eq (by_type t r))) is ∙ set_of_node rs name t

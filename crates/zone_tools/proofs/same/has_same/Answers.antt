use Rattle.std.proofs.Common.{◌≡◌, ◌-◌, length, take, drop, rules, Bool, true, false, if◌then◌else◌, Option, Some, None, is_some, Bor, refl, sym, ap, ◌∙◌}
use Rattle.std.specs.Option.{option_copied}
use Rattle.std.specs.Ordering.{is_lt}
use Rattle.std.proofs.lemmas.List.Sorted.{IsPartitionPoint-from_clause}
use Rattle.dns_data.specs.declared.record.Record.{Record}
use Rattle.zone_core.specs.Sets.{key_of, same_key, record_order}
use Rattle.zone_core.proofs.RangeLemmas.{rest_is}
use Rattle.zone_core.proofs.PutLemmas.{tied, sought_first}
use Rattle.zone_tools.proofs.same.has_same.Goals as goal

found_if : (b : Bool) (x : Record) → b ≡ is_some (if b then Some x else None)
found_if true x = refl
found_if false x = refl

pub returns-in-Some : goal.returns-in-Some
returns-in-Some c =
    let r = c.args.rr.now in
    let rs = c.args.records.now in
    let i = c.partition_point-place.result in
    let is = sought_first r rs (take (length rs - i) (drop i rs)) i (option_copied c.first.result) c.requires c.partition_point-place.ensures.bound
    (λ parts. IsPartitionPoint-from_clause (λ x. is_lt (record_order x r)) rs i c.partition_point-place.ensures.partitioned parts (λ a b q k. search rules)) (rest_is rs i) c.first.ensures.value in
    c.is_same.ensures ∙ found_if (same_key (key_of c.in-Some.found.now) (key_of r)) c.in-Some.found.now
    ∙ ap (λ (o : Option (Bor Record)). is_some (tied r (option_copied o))) (sym c.in-Some.is) ∙ ap (λ (o : Option Record). is_some o) is

pub returns-in-None : goal.returns-in-None
returns-in-None c =
    let r = c.args.rr.now in
    let rs = c.args.records.now in
    let i = c.partition_point-place.result in
    let is = sought_first r rs (take (length rs - i) (drop i rs)) i (option_copied c.first.result) c.requires c.partition_point-place.ensures.bound
    (λ parts. IsPartitionPoint-from_clause (λ x. is_lt (record_order x r)) rs i c.partition_point-place.ensures.partitioned parts (λ a b q k. search rules)) (rest_is rs i) c.first.ensures.value in
    ap (λ (o : Option (Bor Record)). is_some (tied r (option_copied o))) (sym c.in-None.is) ∙ ap (λ (o : Option Record). is_some o) is

use Rattle.std.proofs.Common.{rules, ◌≡◌, ◌≤◌, length, Bool, true, false, sym, ap, subst, ◌∙◌, arith}
use Rattle.std.specs.Ordering.{is_lt}
use Rattle.std.specs.List.{insert as insert_at}
use Rattle.std.specs.List.Sorted.{IsPartitionPoint, IsPartitionedBy}
use Rattle.std.proofs.lemmas.List.Sorted.{IsPartitionPoint-from_clause}
use Rattle.dns_data.specs.declared.record.Record.{Record}
use Rattle.zone_core.specs.Sets.{record_order}
use Rattle.zone_core.proofs.PutLemmas.{parted}
use Rattle.zone_core.proofs.RowLemmas.{InOrder-filter}
use Rattle.store_cache.specs.RowPieces.{is_other}
use Rattle.store_cache.proofs.PieceLemmas.{at_place}
use Rattle.store_cache.proofs.record_rows.put_record.Goals as goal

pub returns : goal.returns
returns c =
    let r = c.args.rr.now in
    let rows = c.args.rows.now.items in
    let xs = c.remove_record.new.rows.items in
    let seen = c.deref.result.now in
    let i = c.partition_point-place.result in
    let before : Record → Bool = λ x. is_lt (record_order x r) in
    let is = c.deref.ensures.value ∙ c.remove_record.ensures in
    let parts =
    subst (λ ys. IsPartitionPoint (λ x. before x ≡ true) (λ x. before x ≡ false) ys i) is
    (IsPartitionPoint-from_clause before seen i c.partition_point-place.ensures.partitioned (subst (IsPartitionedBy before) (sym is) (parted r _ (InOrder-filter (is_other r) rows c.requires))) (λ a b q k. search rules)) in
    c.in_ok-insert.ensures.items ∙ ap (insert_at xs i) c.in_ok-try_copy.ensures ∙ ap (λ ys. insert_at ys i r) c.remove_record.ensures
    ∙ sym (at_place r rows i c.requires (subst (λ ys. i ≤ length ys) is c.partition_point-place.ensures.bound) (λ k d h. parts.0 k d (omega arith) h) (λ k d h j. parts.1 k d h j))

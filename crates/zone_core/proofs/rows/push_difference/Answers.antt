use Rattle.std.proofs.Common.{not, Some, sym, ◌∙◌}
use Rattle.std.specs.FinMap.{get}
use Rattle.std.specs.List.{filter}
use Rattle.std.proofs.lemmas.List.{append-nil}
use Rattle.dns_data.specs.declared.record.Record.{Record}
use Rattle.zone_core.specs.Sets.{key_of, set_of, same_ttl}
use Rattle.zone_core.proofs.BehindLemmas.{behind_all, behind_more, behind_same, filter_push, filter_skip}
use Rattle.zone_core.proofs.rows.push_difference.Goals.{then-differs+in_ok-push_copy, else-differs}
use Rattle.zone_core.proofs.rows.push_difference.Goals as goal

pub loop-record-preserved : goal.loop-record-preserved
loop-record-preserved c =
    let p = λ (r : Record). not (same_ttl (Some r) (get (set_of c.args.others.now) (key_of r))) in
    let x = c.record-item.result in
    elim c.if-differs.branch [
      | then-differs+in_ok-push_copy w ↦
          rw w.found-is (behind_more (filter p) c.args.found.now.items c.args.records.now c.loop-record.record-index x _ (filter_push p x (sym c.differs.ensures ∙ w.if-differs.true)) c.loop-record-test.true c.record-item.is c.loop-record.invariant w.in_ok-push_copy.ensures)
      | else-differs w ↦
          rw w.found-is (behind_same (filter p) c.args.found.now.items c.args.records.now c.loop-record.record-index x (filter_skip p x (sym c.differs.ensures ∙ w.if-differs.false)) c.loop-record-test.true c.record-item.is c.loop-record.invariant)
    ]

pub loop-record-init : goal.loop-record-init
loop-record-init c = sym (append-nil c.args.found.now.items)

pub returns : goal.returns
returns c =
    behind_all (filter (λ (r : Record). not (same_ttl (Some r) (get (set_of c.args.others.now) (key_of r))))) c.args.found.now.items c.args.records.now c.loop-record.record-index c.loop-record.invariant c.loop-record-test.false

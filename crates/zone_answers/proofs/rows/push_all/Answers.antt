use Rattle.std.proofs.Common.{List, refl, sym}
use Rattle.std.proofs.lemmas.List.{append-nil}
use Rattle.dns_data.specs.declared.record.Record.{Record}
use Rattle.zone_core.proofs.BehindLemmas.{behind_all, behind_more}
use Rattle.zone_answers.proofs.rows.push_all.Goals as goal

pub loop-record-preserved : goal.loop-record-preserved
loop-record-preserved c =
    behind_more (λ (rs : List Record). rs) c.args.rows.now.items c.args.records.now c.loop-record.record-index c.record-item.result _ (λ _. refl) c.loop-record-test.true c.record-item.is c.loop-record.invariant c.in_ok-push_copy.ensures

pub loop-record-init : goal.loop-record-init
loop-record-init c = sym (append-nil c.args.rows.now.items)

pub returns : goal.returns
returns c = behind_all (λ (rs : List Record). rs) c.args.rows.now.items c.args.records.now c.loop-record.record-index c.loop-record.invariant c.loop-record-test.false

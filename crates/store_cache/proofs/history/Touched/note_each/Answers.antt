use Rattle.std.proofs.Common.{List, ◌&&◌, ap, ◌∙◌, arith}
use Rattle.std.proofs.lemmas.List.{take_all}
use Rattle.dns_data.specs.declared.record.Record.{Record}
use Rattle.store_cache.specs.History.{hides_each, leaves_out}
use Rattle.store_cache.proofs.HistoryLemmas.{noted_more, noted_none}
use Rattle.store_cache.proofs.history.Touched.note_each.Goals as goal

pub loop-record-init : goal.loop-record-init
loop-record-init c = λ grants. noted_none (leaves_out grants c.args.origin.now c.args.self.now)

pub loop-record-preserved : goal.loop-record-preserved
loop-record-preserved c = λ grants.
    noted_more grants (leaves_out grants c.args.origin.now c.args.self.now) (leaves_out grants c.args.origin.now c.loop-record.self) (leaves_out grants c.args.origin.now c.note.new.self)
    c.args.records.now c.loop-record.record-index c.record-item.result c.loop-record-test.true c.record-item.is (c.loop-record.invariant grants) (c.in_ok-note.ensures grants)

pub returns : goal.returns
returns c = λ grants.
    c.loop-record.invariant grants
    ∙ ap (λ (rs : List Record). leaves_out grants c.args.origin.now c.args.self.now && hides_each grants rs) (take_all c.loop-record.record-index c.args.records.now (omega arith))

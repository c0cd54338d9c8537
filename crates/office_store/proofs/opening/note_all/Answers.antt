use Rattle.std.proofs.Common.{ap, ◌∙◌, sym, subst, arith}
use Rattle.std.proofs.lemmas.List.{take_all}
use Rattle.store_cache.specs.History.{KnowsAll}
use Rattle.store_rows.specs.ChangeRows.{gathered}
use Rattle.office_store.proofs.HistoryLemmas.{gathered_more}
use Rattle.office_store.proofs.opening.note_all.Goals as goal

pub loop-one-preserved : goal.loop-one-preserved
loop-one-preserved c = record {
  origin = c.note.ensures.origin ∙ c.loop-one.invariant.origin;
  all = λ none. subst (KnowsAll c.note.new.history) (sym (gathered_more c.args.changed.now c.loop-one.one-index c.one-item.result (omega arith) c.one-item.is)) (c.in_ok-note.ensures.placed _ (c.loop-one.invariant.all none));
}

pub returns-clause-gathered : goal.returns-clause-gathered
returns-clause-gathered c = λ none.
    subst (KnowsAll c.loop-one.history) (ap gathered (take_all c.loop-one.one-index c.args.changed.now (omega arith))) (c.loop-one.invariant.all none)

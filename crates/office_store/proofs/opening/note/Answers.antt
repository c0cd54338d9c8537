use Rattle.store_rows.specs.ChangeRows.{opened}
use Rattle.office_store.proofs.HistoryLemmas.{noted_last, on_ok_both}
use Rattle.office_store.proofs.opening.note.Goals as goal

pub returns-clause-placed : goal.returns-clause-placed
returns-clause-placed c =
    let mid = c.open_change.new.history in
    let new = c.note.new.self in
    let changed = c.args.changed.now in
    on_ok_both c.note.result _ _ _ (λ last none cs knows. noted_last mid new changed.side changed.changed last none (opened cs changed.number) (c.in_ok-open_change.ensures.opened cs knows)) c.note.ensures.last c.note.ensures.none

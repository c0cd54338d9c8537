use Rattle.std.proofs.Common.{rules, sym, ap, ◌∙◌, List, Ok}
use Rattle.std.proofs.lemmas.Iterator.Adapters.{YieldsList-from_vec}
use Rattle.std.proofs.lemmas.Iterator.Consumers.{YieldsList-so_far, YieldsList-turn, YieldsList-end}
use Rattle.std.proofs.lemmas.List.{map-id}
use Rattle.std.proofs.lemmas.Result.{err_from_is_err_and}
use Rattle.store_rows.specs.declared.changes.ChangedRecord.{ChangedRecord}
use Rattle.store_rows.specs.RowReading.{each_read, changed_in}
use Rattle.store_rows.proofs.StoredLaws.{with_one, refused_in_turn}
use Rattle.store_rows.proofs.gathering.stored_by.Goals as goal

pub returns-in_err-stored_row : goal.returns-in_err-stored_row
returns-in_err-stored_row c =
    let p = err_from_is_err_and c.from_residual-in_err-stored_row.result c.from_residual-in_err-stored_row.ensures.1 in
    let all = YieldsList-from_vec {s = c.into_iter-row-iterator.result} c.args.rows.items (search rules) (search rules) in
    let turn = YieldsList-turn all c.loop-row.yielded c.loop-row.row-iterator c.loop-row.yielded_by c.next.result c.next.new.self c.in-Some.row c.in-Some.is c.next.ensures.steps in
    rw (p.1, p.2)
    (refused_in_turn changed_in c.in_err-stored_row.field-0.0 c.args.rows.items c.loop-row.yielded c.in-Some.row c.loop-row.changed.items (YieldsList-so_far all c.loop-row.yielded c.loop-row.row-iterator c.loop-row.yielded_by) turn
    c.loop-row.invariant c.in_err-stored_row.ensures)

pub loop-row-preserved : goal.loop-row-preserved
loop-row-preserved c =
    with_one changed_in c.loop-row.yielded c.in-Some.row c.loop-row.changed.items c.in_ok-stored_row.field-0 c.loop-row.invariant c.in_ok-stored_row.ensures
    ∙ ap (λ (l : List ChangedRecord). Ok l) (sym c.in_ok-push.ensures.items)

pub returns : goal.returns
returns c =
    let all = YieldsList-from_vec {s = c.into_iter-row-iterator.result} c.args.rows.items (search rules) (search rules) in
    let end = YieldsList-end all c.loop-row.yielded c.loop-row.row-iterator c.loop-row.yielded_by c.next.result c.next.new.self c.in-None.is c.next.ensures.steps in
    ap (each_read changed_in) (sym end.0 ∙ map-id c.loop-row.yielded) ∙ c.loop-row.invariant

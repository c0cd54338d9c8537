use Rattle.std.proofs.lemmas.Result.{IfOk-equal}
use Rattle.dns_names.proofs.RowLemmas.{rows_joined}
use Rattle.dns_names.proofs.representation.push_rows.Goals as goal

pub returns : goal.returns
returns c =
    IfOk-equal c.push_row.result _ _ _ c.push_row.ensures
    (rows_joined _ _ _ _ _ c.args.front.now c.args.tail.now c.front.invariant c.front.view_is c.tail.invariant c.tail.view_is _ _ _ _ c.in_ok-extend_from_slice.ensures.items c.in_ok-extend_from_slice-2.ensures.items c.in_ok-extend_from_slice-3.ensures.items)

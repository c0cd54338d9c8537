use Rattle.std.proofs.Common.{◌<◌, length, sym, ◌∙◌, subst, arith}
use Rattle.std.specs.List.{All}
use Rattle.policy_tools.specs.declared.claims.Coverage.{Coverage}
use Rattle.policy_tools.proofs.ClaimLemmas.{rows_first, row_yes, row_no, rows_done}
use Rattle.policy_tools.proofs.taking.mark_rows.Goals as goal
use Rattle.policy_tools.proofs.taking.mark_rows.Goals.{then-is_in, else-is_in}

pub mark-requires : goal.mark-requires
mark-requires c =
    let all = subst (λ (r : Coverage). All (λ e. e.number < length c.args.found.now) r.entries.items) (sym c.row-item.is) (c.requires c.loop-row.row-index c.row-item.result c.loop-row-test.true) in
    rw c.deref-then-is_in.ensures.value (λ k d lt. omega (arith, all k d lt, c.loop-row.auto.found))

pub loop-row-init : goal.loop-row-init
loop-row-init c = rows_first c.args.found.now c.args.claim c.args.number c.args.rows.now

pub loop-row-preserved : goal.loop-row-preserved
loop-row-preserved c =
    let init = c.args.found.now in
    let claim = c.args.claim in
    let i = c.args.number in
    let rows = c.args.rows.now in
    let n = c.loop-row.row-index in
    let row = c.row-item.result in
    let found = c.loop-row.found in
    let lt = c.loop-row-test.true in
    elim c.if-is_in.branch [
      | then-is_in w ↦ rw w.found-is (row_yes init found w.mark.new.found claim i rows n row lt c.row-item.is w.mark.auto.found
          (rw c.deref.ensures.value at (sym c.is_in.ensures ∙ w.if-is_in.true))
          (rw w.deref-then-is_in.ensures.value at w.mark.ensures) c.loop-row.invariant)
      | else-is_in w ↦ rw w.found-is (row_no init found claim i rows n row lt c.row-item.is (rw c.deref.ensures.value at (sym c.is_in.ensures ∙ w.if-is_in.false)) c.loop-row.invariant)
    ]

pub returns : goal.returns
returns c = λ j below. rows_done c.args.found.now c.loop-row.found c.args.claim c.args.number c.args.rows.now c.loop-row.row-index c.loop-row-test.false c.loop-row.invariant j (omega (arith, below, c.loop-row.auto.found))

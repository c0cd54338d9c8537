use Rattle.std.proofs.Common.{◌∙◌, ◌++◌, ap}
use Rattle.cli_checks.specs.Expect.{IsRowText}
use Rattle.cli_checks.proofs.ReportLemmas.{texts_more}
use Rattle.cli_checks.proofs.expect.rows_text.Goals as goal

pub loop-row-preserved : goal.loop-row-preserved
loop-row-preserved c =
    let l = c.loop-row in
    texts_more (IsRowText c.args.policy.now) c.args.rows.now l.row-index _ c.row-item.result l.text.items c.in_ok-here.here.items _ c.loop-row-test.true c.row-item.is l.invariant c.in_ok-here.ensures
    (c.in_ok-extend_from_slice.ensures.items ∙ ap (λ v. l.text.items ++ v) c.deref.ensures.value)

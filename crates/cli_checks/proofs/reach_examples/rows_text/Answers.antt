use Rattle.std.proofs.Common.{◌∙◌, ◌++◌, ap}
use Rattle.std.specs.Prelude.{string_bytes}
use Rattle.cli_checks.specs.ReachExamples.{IsRowText}
use Rattle.cli_checks.proofs.ReportLemmas.{texts_more}
use Rattle.cli_checks.proofs.reach_examples.rows_text.Goals as goal

pub loop-row-preserved : goal.loop-row-preserved
loop-row-preserved c =
    let l = c.loop-row in
    texts_more (IsRowText c.args.search.now) c.args.rows.now l.row-index _ c.row-item.result (string_bytes l.text) (string_bytes c.in_ok-here.here) _
    c.loop-row-test.true c.row-item.is l.invariant c.in_ok-here.ensures
    (c.in_ok-push_str.ensures.bytes ∙ ap (λ v. string_bytes l.text ++ v) c.deref.ensures)

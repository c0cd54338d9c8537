use Rattle.std.proofs.Common.{◌∙◌, ◌+◌, sym, subst, map, drop, take}
use Rattle.std.specs.Prelude.{string_bytes}
use Rattle.cli_updates.specs.Filling.{part_view}
use Rattle.cli_updates.specs.PartLines.{ArePartLines}
use Rattle.cli_updates.specs.Split.{bodies_behind, with_body}
use Rattle.cli_core.proofs.StepLemmas.{given_before}
use Rattle.cli_updates.proofs.SplitLemmas.{bodies_next}
use Rattle.cli_updates.proofs.PartLineLemmas.{lines_next}
use Rattle.cli_updates.proofs.split.bodies.Goals as goal

pub loop-before-preserved : goal.loop-before-preserved
loop-before-preserved c =
    let word = c.args.word.now in
    let parts = c.args.parts.now in
    let l = c.loop-before in
    let i = l.before in
    let x = c.index-parts-before.result in
    let is = c.index-parts-before.is in
    let lt = c.loop-before-test.true in
    let old = string_bytes l.text in
    let new = string_bytes c.push_body.new.text in
    let pushed = c.in_ok-push_body.ensures in
    let next = bodies_next part_view word old parts i x lt is
    ∙ given_before (with_body word i old (part_view x)) (λ t. bodies_behind word (i + 1) t (map part_view (drop (i + 1) parts))) new pushed.exact in
    record {
      made = sym next ∙ l.invariant.made;
      read = subst (ArePartLines word 0 (map part_view (take (i + 1) parts))) (sym pushed.read.2) (lines_next part_view word parts i x old pushed.read.0 lt is l.invariant.read pushed.read.1);
    }

use Rattle.cli_updates.proofs.IdleLineLemmas.{next_line, lines_ended}
use Rattle.cli_updates.proofs.idle_lines.push_each.Goals as goal

pub loop-i-preserved : goal.loop-i-preserved
loop-i-preserved c = next_line c.args.found.now c.loop-i.i _ _ _ c.loop-i-test.true c.loop-i.invariant c.in_ok-push_idle.ensures

pub returns : goal.returns
returns c = lines_ended c.args.found.now c.loop-i.i _ _ c.loop-i-test.false c.loop-i.invariant

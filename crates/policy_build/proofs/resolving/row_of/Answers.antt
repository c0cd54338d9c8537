use Rattle.std.proofs.Common.{sym, ◌∙◌}
use Rattle.policy_build.proofs.LoopLemmas.{row_taken, taken}
use Rattle.policy_build.proofs.resolving.row_of.Goals as goal

pub returns-then-is_some : goal.returns-then-is_some
returns-then-is_some g c =
    let rows = c.args.rows.now in
    let found = taken c.row_at.result c.id.result.now rows c.row_at.ensures (sym c.is_some.ensures ∙ c.if-is_some.true) in
    rw c.place.ensures (row_taken rows c.args.group.now (rw c.id.ensures at found))

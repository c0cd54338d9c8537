use Rattle.std.proofs.Common.{sym, subst}
use Rattle.store_cache.specs.History.{Remembers}
use Rattle.store_cache.proofs.history.remember.Goals as goal
use Rattle.store_cache.proofs.history.remember.Goals.{then-count-eq0, else-count-eq0}

pub returns : goal.returns
returns c = λ s held there read remembers. c.append.ensures s held there read (elim c.if-count-eq0.branch [
  | then-count-eq0 w ↦ subst (Remembers s) (sym w.history-is) (w.begin.ensures s remembers)
  | else-count-eq0 w ↦ subst (Remembers s) (sym w.history-is) remembers
])

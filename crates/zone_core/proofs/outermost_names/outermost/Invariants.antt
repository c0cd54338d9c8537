use Rattle.zone_core.proofs.OutermostLemmas.{AreUnderway}
use Rattle.zone_core.proofs.outermost_names.outermost.Given as goal

abbrev pub invariant-loop-name : goal.invariant-loop-name
invariant-loop-name l = AreUnderway l.names l.name-index l.tops.items

use Rattle.cli_checks.proofs.OriginLemmas.{OriginsFrom}
use Rattle.cli_checks.proofs.origin_list.origins_among.Given as goal

-- the origins of the lines so far, and those of the others
abbrev pub invariant-loop-i : goal.invariant-loop-i
invariant-loop-i l = OriginsFrom l.lines l.i l.origins.items

use Rattle.std.proofs.Common.{◌≡◌, true, false, get_or}
use Rattle.policy_tools.specs.Claims.{AreBelow}
use Rattle.policy_tools.proofs.taking.marked.Given as goal

-- the places so far that are marked
abbrev pub invariant-loop-place : goal.invariant-loop-place
invariant-loop-place l = AreBelow (λ j. get_or l.found j false ≡ true) l.place l.places.items

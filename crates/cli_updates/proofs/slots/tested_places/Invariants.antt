use Rattle.std.proofs.Common.{◌≡◌, ℕ, List, map, take}
use Rattle.std.specs.BTreeMap as tree
use Rattle.dns_names.specs.Order.{canonical_cmp}
use Rattle.zone_core.specs.Updates.{tested_name}
use Rattle.cli_updates.specs.Slots.{first_at}
use Rattle.cli_updates.proofs.slots.tested_places.Given as goal

abbrev pub invariant-loop-place : goal.invariant-loop-place
invariant-loop-place l = (q : List (List ℕ)) → tree.get canonical_cmp l.places q ≡ first_at (map (λ p. tested_name p.now) (take l.place l.tests)) q

use Rattle.std.proofs.Common.{◌≡◌, ◌≤◌, ◌-◌, ◌∷◌, ℕ, List, length}
use Rattle.dns_names.specs.Keys.{key_of}
use Rattle.zone_answers.specs.Answers.{Name}
use Rattle.zone_answers.proofs.EncloserLemmas.{IsLeft}
use Rattle.zone_answers.proofs.enclosers.parent_key.Given as goal

abbrev pub decreases-loop-octet : goal.decreases-loop-octet
decreases-loop-octet l = length l.rest

-- what is left is the key above, and some octets of the label after it
abbrev pub invariant-loop-octet : goal.invariant-loop-octet
invariant-loop-octet l = (length l.rest ≤ length l.key - 1) × ((label : List ℕ) (labels : Name) → l.key ≡ key_of (label ∷ labels) → IsLeft label labels l.rest)

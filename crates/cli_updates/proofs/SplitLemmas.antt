-- The bodies of parts, one after the other.
use Rattle.std.proofs.Common.{◌≡◌, ℕ, ◌+◌, ◌<◌, ◌≤◌, List, length, get_or, map, drop, Ok, ap}
use Rattle.zone_core.specs.Updates.{UpdateOf}
use Rattle.cli_core.specs.LineFaults.{◌>>=◌}
use Rattle.cli_updates.specs.Split.{bodies_behind, with_body}
use Rattle.cli_updates.proofs.FillingLemmas.{drop_all, drop_next}

-- one part more
pub bodies_next : {X : Type 0} (view : X → UpdateOf) (word : List ℕ) (text : List ℕ) (xs : List X) (i : ℕ) (x : X) → i < length xs → x ≡ get_or xs i x
    → bodies_behind word i text (map view (drop i xs)) ≡ (with_body word i text (view x) >>= λ t. bodies_behind word (i + 1) t (map view (drop (i + 1) xs)))
bodies_next view word text xs i x lt is = ap (λ ys. bodies_behind word i text (map view ys)) (drop_next xs i x lt is)

pub bodies_last : {X : Type 0} (view : X → UpdateOf) (word : List ℕ) (text : List ℕ) (xs : List X) (i : ℕ) → length xs ≤ i
    → bodies_behind word i text (map view (drop i xs)) ≡ Ok text
bodies_last view word text xs i le = ap (λ ys. bodies_behind word i text (map view ys)) (drop_all xs i le)

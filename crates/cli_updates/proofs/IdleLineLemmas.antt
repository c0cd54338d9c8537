-- The lines of operations that change nothing, one after the other.
use Rattle.std.proofs.Common.{◌≡◌, ℕ, ◌+◌, ◌<◌, ◌≤◌, List, ◌++◌, length, get_or, drop, Option, None, sym, ap, ◌∙◌, add-one, append_assoc, append-nil}
use Rattle.std.proofs.lemmas.List.{at_drop_more, drop_all}
use Rattle.zone_tools.specs.declared.idle.Idleness.{Idleness}
use Rattle.cli_updates.specs.IdleLines.{idle_line, idle_lines_from}

-- a text that has the lines of a prefix of a list, and those of the rest of it
pub next_line : (found : List (Option Idleness)) (i : ℕ) (text next total : List ℕ) → i < length found
    → text ++ idle_lines_from i (drop i found) ≡ total → next ≡ text ++ idle_line i (get_or found i None) → next ++ idle_lines_from (i + 1) (drop (i + 1) found) ≡ total
next_line found i text next total lt so here =
    let one = get_or found i None in
    let rest = idle_lines_from (i + 1) (drop (i + 1) found) in
    ap (λ bs. bs ++ rest) here ∙ append_assoc text (idle_line i one) rest
    ∙ ap (λ bs. text ++ bs)
    (ap (λ (n : ℕ). idle_line i one ++ idle_lines_from n (drop (i + 1) found)) (add-one i)
    ∙ sym (at_drop_more (λ os. idle_lines_from i os) found i None lt))
    ∙ so

-- nothing is left
pub lines_ended : (found : List (Option Idleness)) (i : ℕ) (text total : List ℕ) → length found ≤ i → text ++ idle_lines_from i (drop i found) ≡ total → text ≡ total
lines_ended found i text total past so =
    sym (append-nil text) ∙ ap (λ (os : List (Option Idleness)). text ++ idle_lines_from i os) (sym (drop_all i found past)) ∙ so

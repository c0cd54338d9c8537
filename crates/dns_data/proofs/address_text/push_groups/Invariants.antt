use Rattle.std.proofs.Common.{◌≡◌, ◌≤◌, ◌+◌, ◌*◌, ◌∷◌, ◌++◌, get_or, take}
use Rattle.std.specs.Net.Text.{groups_text}
use Rattle.arrayvec.specs.ArrayVec.{array_vec_len}
use Rattle.dns_data.proofs.address_text.push_groups.Given as goal

-- the segments so far are written, each with a colon and four digits at most
abbrev pub invariant-loop-segment : goal.invariant-loop-segment
invariant-loop-segment l =
    (l.text.items ≡ l.fn.text.items ++ groups_text (get_or l.segments 0 0 ∷ take l.segment-index l.others)) × (array_vec_len l.text ≤ array_vec_len l.fn.text + 5 * l.segment-index + 4)

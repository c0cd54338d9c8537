use Rattle.std.proofs.Common.{◌≡◌, ◌++◌, ◌∷◌, List, ℕ, length, map, ap, ◌∙◌, append_assoc, arith}
use Rattle.dns_names.specs.Keys.{key_of}
use Rattle.dns_names.specs.Rows.{row_of, escaped_rows, name_in}
use Rattle.dns_names.proofs.RowLemmas.{counts_fit, rows_escaped, in_escaped}
use Rattle.dns_names.proofs.name.Name.joined_escaped.Goals as goal
use Rattle.dns_names.proofs.name.Name.joined_escaped.Goals.{In_ok-push_key_of}

pub overflow_add-room-3 : goal.overflow_add-room-3
overflow_add-room-3 c = omega (arith, c.key_len.ensures, (counts_fit _ c.requires.name).2)

rows : (c : In_ok-push_key_of) → c.push_key_of.new.memory.items ≡ 255 ∷ escaped_rows (c.args.front.now ++ c.args.tail.now)
rows c =
    let name = c.args.front.now ++ c.args.tail.now in
    rw (c.in_ok-push_key_of.ensures, c.in_ok-push_rows.ensures, c.in_ok-extend_from_slice.ensures.items, c.in_ok-memory.ensures.items, c.label_count-count.ensures, c.row_len-total.ensures)
    (ap (λ (l : List ℕ). 255 ∷ length name ∷ length (row_of name) ∷ l) (append_assoc (map length name) (row_of name) (key_of name)))

pub invariant_of-result : goal.invariant_of-result
invariant_of-result c = rows_escaped _ _ (rows c) c.requires.name

pub returns : goal.returns
returns c = ap name_in (rows c) ∙ in_escaped _

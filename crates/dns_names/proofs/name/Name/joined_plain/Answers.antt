use Rattle.std.proofs.Common.{◌≡◌, ◌++◌, ◌∷◌, List, ℕ, length, map, ap, ◌∙◌}
use Rattle.dns_names.specs.Rows.{plain_rows, name_in}
use Rattle.dns_names.proofs.RowLemmas.{rows_plain, in_plain}
use Rattle.dns_names.proofs.name.Name.joined_plain.Goals as goal
use Rattle.dns_names.proofs.name.Name.joined_plain.Goals.{In_ok-push_rows}

rows : (c : In_ok-push_rows) → c.push_rows.new.memory.items ≡ plain_rows (c.args.front.now ++ c.args.tail.now)
rows c =
    let name = c.args.front.now ++ c.args.tail.now in
    rw (c.in_ok-push_rows.ensures, c.in_ok-push.ensures.items, c.in_ok-memory.ensures.items, c.label_count-count.ensures) (ap (λ (l : List ℕ). length name ∷ (map length name ++ l)) c.requires.plain)

pub invariant_of-result : goal.invariant_of-result
invariant_of-result c = rows_plain _ _ (rows c) c.requires.name c.requires.plain

pub returns : goal.returns
returns c = ap name_in (rows c) ∙ in_plain _ c.requires.name c.requires.plain

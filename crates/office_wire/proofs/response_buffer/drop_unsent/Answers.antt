use Rattle.std.proofs.Common.{◌≡◌, ◌∙◌, ℕ, List, length, drop, take, ap, arith, length-drop, length-take}
use Rattle.std.proofs.lemmas.List.{nil_from_length}
use Rattle.office_wire.proofs.response_buffer.drop_unsent.Goals as goal

pub returns-in-Head-clause-sent : goal.returns-in-Head-clause-sent
returns-in-Head-clause-sent c =
    let items = c.args.text.now.items in
    let none : length (drop 256 (take 256 items)) ≡ 0 = simp (length-drop, length-take) (omega arith) in
    rw c.in-Head.is (ap (λ (l : List ℕ). drop 256 l) c.truncate.ensures.items ∙ nil_from_length (drop 256 (take 256 items)) none)

use Rattle.std.proofs.Common.{◌≡◌, ℕ, ◌+◌, ◌-◌, ◌≤◌, List, ◌++◌, drop, length, take, sym, ap, ◌∙◌, arith, take-append-drop, length-append, length-drop}
use Rattle.std.proofs.lemmas.List.{drop-drop, drop_all, length-take-le}
use Rattle.std.proofs.Math.Seq.{take-append_seam}
use Rattle.dns_master.proofs.device.PiecesRead.read.Goals as goal

-- what was copied to the front of a buffer, and what is left after it
copied : (xs front back : List ℕ) (r n : ℕ) → front ≡ take n (drop r xs) → length front ≡ n → drop r xs ≡ take n (front ++ back) ++ drop (r + n) xs
copied xs front back r n is size =
    let whole : take n (front ++ back) ≡ front = ap (λ (k : ℕ). take k (front ++ back)) (sym size) ∙ take-append_seam front back in
    sym (take-append-drop n (drop r xs)) ∙ ap (λ (ys : List ℕ). ys ++ drop n (drop r xs)) (sym (whole ∙ is))
    ∙ ap (λ (ys : List ℕ). take n (front ++ back) ++ ys) (drop-drop n r xs)

pub returns-clause-bytes : goal.returns-clause-bytes
returns-clause-bytes c =
    let before = c.args.self.now in
    let octets = before.octets.items in
    let turned = c.in_ok-turn.ensures in
    let n = c.max-count.result in
    let front = c.copy_from_slice.new.self in
    let count : n ≡ (before.read + n) - before.read = omega arith in
    let is : front ≡ take n (drop before.read octets) =
    rw count (rw (turned.read, c.deref.ensures.value, turned.octets) at c.copy_from_slice.ensures.after) in
    let within : n ≤ length (drop before.read octets) = omega (arith, length-drop before.read octets, turned.count, c.len.ensures) in
    let size : length front ≡ n = ap length is ∙ length-take-le n (drop before.read octets) within in
    rw (turned.read, turned.octets) (
      copied octets front (drop n c.args.buffer.now) before.read n is size,
      λ none some. drop_all (before.read + n) octets (omega (arith, some, length-append front (drop n c.args.buffer.now), length-drop n c.args.buffer.now, turned.count, c.len.ensures)),
    )

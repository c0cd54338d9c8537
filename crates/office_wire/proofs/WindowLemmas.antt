-- Octets that move within a row, and are written into it.
use Rattle.std.proofs.Common.{◌≡◌, ◌≤◌, ◌-◌, ◌+◌, ℕ, drop, take, length, List, ◌++◌, ◌∙◌, sym, ap, subst, arith, length-append, length-drop}
use Rattle.std.specs.List.{copy_within, slice_range}
use Rattle.std.proofs.lemmas.List.{take-append-le, length-take-le, drop-drop, drop-take, take-take}
use Rattle.std.proofs.Math.Seq.{take-append-add, take-append_seam}

-- the first octets of a range let go
pub dropped : (xs : List ℕ) (a b n : ℕ) → a + n ≤ b → slice_range xs (a + n) b ≡ drop n (slice_range xs a b)
dropped xs a b n within =
    let k = b - (a + n) in
    let whole : n + k ≡ b - a = omega arith in
    ap (λ (l : List ℕ). take k l) (sym (drop-drop n a xs)) ∙ sym (drop-take n k (drop a xs)) ∙ ap (λ (j : ℕ). drop n (take j (drop a xs))) whole

-- a range moved to the front
pub moved : (xs : List ℕ) (a b : ℕ) → a ≤ b → b ≤ length xs → take (b - a) (copy_within xs a b 0) ≡ slice_range xs a b
moved xs a b order fits =
    let k = b - a in
    let enough : k ≤ length (drop a xs) = simp length-drop (omega arith) in
    let len : length (take k (drop a xs)) ≡ k = length-take-le k (drop a xs) enough in
    subst (λ (j : ℕ). take j (take k (drop a xs) ++ drop (0 + k) xs) ≡ take k (drop a xs)) len (take-append_seam (take k (drop a xs)) (drop (0 + k) xs))

grown : (xs buf post : List ℕ) (filled n : ℕ) → filled ≤ length xs → n ≤ length buf
    → take (filled + n) (take filled xs ++ (buf ++ post)) ≡ take filled xs ++ take n buf
grown xs buf post filled n within fits =
    let len : length (take filled xs) ≡ filled = length-take-le filled xs within in
    subst (λ (k : ℕ). take (k + n) (take filled xs ++ (buf ++ post)) ≡ take filled xs ++ take n buf) len
    (take-append-add (take filled xs) (buf ++ post) n ∙ ap (λ (l : List ℕ). take filled xs ++ l) (take-append-le n buf post fits))

pub refilled : (xs buf : List ℕ) (filled n len : ℕ) → len ≡ length xs → filled ≤ length xs → n ≤ length buf → length buf ≡ length xs - filled
    → take (filled + n) (take len ((take filled xs ++ (buf ++ drop (length xs - filled) (drop filled xs))) ++ drop (length (take filled xs ++ (buf ++ drop (length xs - filled) (drop filled xs)))) xs))
    ≡ take filled xs ++ take n buf
refilled xs buf filled n len whole within fits room =
    let post = drop (length xs - filled) (drop filled xs) in
    let w = take filled xs ++ (buf ++ post) in
    let small : filled + n ≤ len = omega arith in
    let big : filled + n ≤ length w = simp (length-append, length-take-le filled xs within) (omega arith) in
    take-take (filled + n) len (w ++ drop (length w) xs) small ∙ take-append-le (filled + n) w (drop (length w) xs) big ∙ grown xs buf post filled n within fits

minus_zero : (k : ℕ) → k - 0 ≡ k
minus_zero k = omega arith

-- what is read after the octets that were moved to the front
pub filled_view : (xs buf old : List ℕ) (filled n len : ℕ) → len ≡ length xs → filled ≤ length xs → n ≤ length buf → length buf ≡ length xs - filled → take filled xs ≡ old
    → slice_range (take len ((take filled xs ++ (buf ++ drop (length xs - filled) (drop filled xs))) ++ drop (length (take filled xs ++ (buf ++ drop (length xs - filled) (drop filled xs)))) xs)) 0 (filled + n)
    ≡ old ++ take n buf
filled_view xs buf old filled n len whole within fits room front =
    ap (λ (j : ℕ). take j (take len ((take filled xs ++ (buf ++ drop (length xs - filled) (drop filled xs))) ++ drop (length (take filled xs ++ (buf ++ drop (length xs - filled) (drop filled xs)))) xs))) (minus_zero (filled + n))
    ∙ refilled xs buf filled n len whole within fits room ∙ ap (λ (l : List ℕ). l ++ take n buf) front

-- How many reads and writes have failed between two moments.
use Rattle.std.specs.Prelude.{◌≡◌, ℕ, ◌+◌, List, Option}
use Rattle.std.specs.List.{flat_map}
use Rattle.std.proofs.Common.{inl, inr, ◌∙◌, [], ◌∷◌, ◌++◌, refl, sym, ap, subst, arith}
use Rattle.std.proofs.lemmas.Grind.{flat_map-append}
use Rattle.office_wire.specs.Order.{Follows}
use Rattle.office_wire.proofs.OrderLemmas.{follows_none, follows_join}
use Rattle.wire_tcp.specs.Waits.{Noted, Wait, noted}
use Rattle.wire_tcp.specs.Tries.{AreTries, waits_in, AreTrying}

-- the reads and the writes that had failed before, and now
abbrev pub AreTriedSince : ℕ → ℕ → ℕ → ℕ → Option (List Noted) → Option (List Noted) → Type 0
AreTriedSince r v s w before now = (reads writes : ℕ) × AreTrying reads writes before now × (v ≡ r + reads) × (w ≡ s + writes)

pub trying_none : (a : Option (List Noted)) → AreTrying 0 0 a a
trying_none a = ([], follows_none a, (refl, refl))

tries_join : (r s v w : ℕ) (xs ys : List (List Wait)) → AreTries r s xs → AreTries v w ys → AreTries (r + v) (s + w) (xs ++ ys)
tries_join r s v w [] ys p q =
    let none = p.0 in
    let nothing = p.1 in
    let reads : v ≡ r + v = omega (arith, none) in
    let writes : w ≡ s + w = omega (arith, nothing) in
    subst (λ (n : ℕ). AreTries n (s + w) ys) reads (subst (λ (n : ℕ). AreTries v n ys) writes q)
tries_join r s v w (x ∷ xs) ys (inl p) q = inl (p.0, tries_join r s v w xs ys p.1 q)
tries_join r s v w (x ∷ xs) ys (inr (inl p)) q = let more = p.1 in inr (inl (p.0 + v, omega (arith, more), p.2, tries_join p.0 s v w xs ys p.3 q))
tries_join r s v w (x ∷ xs) ys (inr (inr p)) q = let more = p.1 in inr (inr (p.0 + w, omega (arith, more), p.2, tries_join r p.0 v w xs ys p.3 q))

pub trying_join : (r s v w : ℕ) (a b c : Option (List Noted)) → AreTrying r s a b → AreTrying v w b c → AreTrying (r + v) (s + w) a c
trying_join r s v w a b c p q = (
  p.0 ++ q.0,
  subst (Follows a c) (sym (ap (λ (l : List Wait). flat_map noted l) (flat_map-append (λ (l : List Wait). l) p.0 q.0) ∙ flat_map-append noted (waits_in p.0) (waits_in q.0)))
      (follows_join a b c (flat_map noted (waits_in p.0)) (flat_map noted (waits_in q.0)) p.1 q.1),
  tries_join r s v w p.0 q.0 p.2 q.2,
)

pub tried_none : (r s : ℕ) (a : Option (List Noted)) → AreTriedSince r r s s a a
tried_none r s a = (0, 0, trying_none a, omega arith, omega arith)

pub tried_join : (r v x s w y : ℕ) (a b c : Option (List Noted)) → AreTriedSince r v s w a b → AreTriedSince v x w y b c → AreTriedSince r x s y a c
tried_join r v x s w y a b c p q =
    let reads = p.3 in
    let writes = p.4 in
    let more_reads = q.3 in
    let more_writes = q.4 in
    (p.0 + q.0, p.1 + q.1, trying_join p.0 p.1 q.0 q.1 a b c p.2 q.2, omega (arith, reads, more_reads), omega (arith, writes, more_writes))

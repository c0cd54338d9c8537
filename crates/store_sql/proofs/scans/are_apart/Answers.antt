use Rattle.std.proofs.Common.{◌≡◌, ◌∙◌, ◌-◌, false, true≢false, get_or, sym, subst, arith, refl, rules}
use Rattle.std.specs.Int.{w64}
use Rattle.std.specs.Prelude.{FitsSigned}
use Rattle.std.proofs.lemmas.Int.{to_z-of_z}
use Rattle.std.specs.Ordering.{int_eq}
use Rattle.std.proofs.lemmas.Cmp.{int_eq_equiv}
use Rattle.std.proofs.lemmas.List.Sorted.{IsPermutation-sym}
use Rattle.std.proofs.lemmas.Map.Keys.{IsDistinct-IsPermutation, apart_from_distinct}
use Rattle.store_sql.proofs.WholeTables.{apart_if_rising}
use Rattle.store_sql.proofs.scans.are_apart.Goals as goal

pub returns : goal.returns
returns c = (
  (λ _. IsDistinct-IsPermutation int_eq int_eq_equiv.symm c.sort_unstable.new.self.items c.args.numbers.items (IsPermutation-sym _ _ c.sort_unstable.ensures.permutation)
      (apart_if_rising c.sort_unstable.new.self.items c.sort_unstable.ensures.sorted (λ k d low. c.loop-place.invariant k d (omega arith)))),
  (λ _. refl),
)

pub returns-then-index : goal.returns-then-index
returns-then-index c =
    let a = c.index.result.now in
    let b = c.index-in-loop-place.result.now in
    let ns = c.sort_unstable.new.self.items in
    let fits_a : FitsSigned w64 a = search rules in
    let fits_b : FitsSigned w64 b = search rules in
    let one = to_z-of_z w64 a fits_a in
    let two = to_z-of_z w64 b fits_b in
    let bits = c.if-index.true in
    let same : a ≡ b = cc in (
      (λ f. absurd (true≢false (sym f))),
      (λ d.
          let apart = apart_from_distinct int_eq ns (c.loop-place.place - 1) c.loop-place.place a (IsDistinct-IsPermutation int_eq int_eq_equiv.symm c.args.numbers.items ns c.sort_unstable.ensures.permutation d) (omega arith) (omega arith) in
          let second : get_or ns c.loop-place.place a ≡ a = subst (λ x. get_or ns c.loop-place.place x ≡ x) (sym same) (sym c.index-in-loop-place.ensures) in
          let tied : int_eq a a ≡ false = rw (sym c.index.ensures, second) at apart in
          absurd (true≢false (sym (int_eq_equiv.refl a) ∙ tied))),
    )

use Rattle.std.proofs.Common.{◌≡◌, ℕ, [], ◌∷◌, List, Option, subst, arith}
use Rattle.std.specs.Char.{to_ascii_lowercase}
use borrow.Author.Count.{below_more}
use Rattle.policy_tools.specs.FreeNames.{IsFree, IsFreeOctet}
use Rattle.policy_tools.proofs.FreeNameLemmas.{only_octet}
use Rattle.policy_tools.proofs.free_names.short_child.Goals as goal

pub loop-number-preserved : goal.loop-number-preserved
loop-number-preserved c =
    let rules = c.args.rules.now in
    let top = c.args.top.now in
    below_more (λ (o : ℕ). to_ascii_lowercase o ≡ o → ¬ IsFree rules ((o ∷ []) ∷ top)) c.loop-number.number c.loop-number.invariant
    (subst (λ (o : Option (List (List ℕ))). IsFreeOctet rules top c.loop-number.number o) c.in_default.is c.in_ok-child.ensures)

pub returns : goal.returns
returns c = λ label is free.
    let rules = c.args.rules.now in
    let top = c.args.top.now in
    let o = only_octet top c.requires.full label is in
    c.loop-number.invariant o.0 (omega (arith, o.2.below)) o.2.folded (subst (λ (l : List ℕ). IsFree rules (l ∷ top)) o.1 free)

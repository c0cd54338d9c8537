use Rattle.std.proofs.Common.{ℕ, ◌∷◌, sym, subst, arith}
use Rattle.std.proofs.lemmas.Bool.{both_ways}
use Rattle.dns_names.specs.Labels.{IsName}
use borrow.Author.Count.{below_more}
use Rattle.policy_tools.specs.FreeNames.{IsFree, pair_of}
use Rattle.policy_tools.proofs.FreeNameLemmas.{pair_name}
use Rattle.policy_tools.proofs.RepresentativeLemmas.{too_many}
use Rattle.policy_tools.proofs.free_names.long_child.Goals as goal

pub returns-then-is_free : goal.returns-then-is_free
returns-then-is_free c =
    let n = c.loop-number.number in
    let top = c.args.top.now in
    record {
      label = pair_of n;
      is = c.in_ok-child.ensures;
      name = subst IsName (sym c.in_ok-child.ensures) (pair_name top n c.requires.name c.requires.room (omega arith));
      free = c.is_free.ensures.0 c.if-is_free.true;
    }

pub loop-number-preserved : goal.loop-number-preserved
loop-number-preserved c =
    let rules = c.args.rules.now in
    let top = c.args.top.now in
    below_more (λ (k : ℕ). ¬ IsFree rules (pair_of k ∷ top)) c.loop-number.number c.loop-number.invariant
    (λ free. both_ways c.is_free.result c.if-is_free.false (c.is_free.ensures.1 (subst (IsFree rules) (sym c.in_ok-child.ensures) free)))

pub unreachable-requires : goal.unreachable-requires
unreachable-requires c = too_many c.args.rules.now c.args.top.now c.loop-number.number c.requires.few (omega arith) c.loop-number.invariant

use Rattle.std.proofs.Common.{List, ℕ, [], subst, below_more, arith}
use Rattle.std.proofs.lemmas.List.{get_or_read}
use Rattle.policy_tools.specs.Claims.{rules_of}
use Rattle.policy_tools.specs.Readers.{MayListWithin}
use Rattle.policy_tools.proofs.ReaderLemmas.{lists_all}
use Rattle.policy_tools.proofs.readers.hidden_among.Goals as goal

pub loop-name-preserved : goal.loop-name-preserved
loop-name-preserved c =
    let name = c.name-item.result in
    let here : MayListWithin (rules_of c.args.claims.now) c.args.caller.now c.args.origin.now name = rw c.in_default.is at c.in_ok-hidden.ensures in
    below_more _ _ c.loop-name.invariant (subst (λ (n : List (List ℕ)). MayListWithin (rules_of c.args.claims.now) c.args.caller.now c.args.origin.now n) (get_or_read c.args.names.now c.loop-name.name-index name c.loop-name-test.true c.name-item.is []) here)

pub returns : goal.returns
returns c = lists_all (rules_of c.args.claims.now) c.args.caller.now c.args.origin.now c.args.names.now c.requires.names (λ k lt. c.loop-name.invariant k (omega arith))

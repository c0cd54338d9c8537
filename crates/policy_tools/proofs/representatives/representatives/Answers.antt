use Rattle.std.proofs.Common.{[], refl}
use Rattle.std.proofs.lemmas.Bool.{both_ways}
use Rattle.dns_names.proofs.PlacedLemmas.{root_is}
use Rattle.policy_tools.proofs.RepresentativeLemmas.{served_first, served_more, served_again, served_all}
use Rattle.policy_tools.proofs.representatives.representatives.Goals as goal
use Rattle.policy_tools.proofs.representatives.representatives.Goals.{then-is_free+in_ok-add_with_child, else-is_free}

pub loop-i-init : goal.loop-i-init
loop-i-init c = served_first c.args.rules.now [] c.in_ok-names.names.items refl root_is c.in_ok-names.ensures

pub loop-i-preserved : goal.loop-i-preserved
loop-i-preserved c =
    let rules = c.args.rules.now in
    let i = c.loop-i.i in
    let rule = c.index-rules-i.result in
    let below = c.loop-i-test.true in
    let is = c.index-rules-i.is in
    let old = c.loop-i.names.items in
    elim c.if-is_free.branch [
      | then-is_free+in_ok-add_with_child w ↦ rw w.names-is (served_more rules i rule old w.add_with_child.new.names.items below is w.in_ok-add_with_child.ensures.name w.in_ok-add_with_child.ensures.added c.loop-i.invariant)
      | else-is_free w ↦ rw w.names-is (served_again rules i rule old below is (λ free. both_ways c.is_free.result w.if-is_free.false (c.is_free.ensures.1 free)) c.loop-i.invariant)
    ]

pub returns : goal.returns
returns c = served_all c.args.rules.now c.loop-i.i c.loop-i.names.items c.loop-i-test.false c.loop-i.invariant

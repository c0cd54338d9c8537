use Rattle.wire_tcp.proofs.AgeLemmas.{told_over, told_young}
use Rattle.wire_tcp.proofs.age.AgeLimitDeadline.has_passed.Goals as goal

pub invariant_of-self-clause-told : goal.invariant_of-self-clause-told
invariant_of-self-clause-told g c =
    let before = c.args.self.now in
    told_over g.Q.AgeOf.longest g.Q.AgeOf.begun g.Q.AgeOf.before _ _ _ _ _ _ _ before.passed c.is_over-self.result before.told c.now-now.ensures before.stays
    (rw (before.longest, before.begun) at c.is_over-self.ensures) c.if-self.true c.add.ensures.amount c.add-then-self.ensures.amount

pub invariant_of-self-else-self-clause-told : goal.invariant_of-self-else-self-clause-told
invariant_of-self-else-self-clause-told g c =
    let before = c.args.self.now in
    told_young g.Q.AgeOf.longest g.Q.AgeOf.begun g.Q.AgeOf.before _ _ _ _ _ _ before.passed c.is_over-self.result before.told c.now-now.ensures before.stays
    (rw (before.longest, before.begun) at c.is_over-self.ensures) c.if-self.false c.add.ensures.amount

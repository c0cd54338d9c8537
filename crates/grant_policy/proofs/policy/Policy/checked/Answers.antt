use Rattle.std.proofs.Common.{◌≤◌, length, arith}
use Rattle.grant_policy.proofs.PolicyLaws.{free_are}
use Rattle.grant_policy.proofs.policy.Policy.checked.Goals as goal

pub indexed-requires : goal.indexed-requires
indexed-requires c =
    let short : length c.args.rules.items ≤ 1024 = omega arith in
    free_are c.args.rules.items short (rw c.deref.ensures.value at c.in_ok-check_ids.ensures)

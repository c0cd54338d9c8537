use Rattle.std.proofs.Common.{◌≡◌, length, [], arith}
use Rattle.dns_master.proofs.ReadLemmas.{entries_none}
use Rattle.dns_master.proofs.entry.check_rest.Goals as goal

pub returns : goal.returns
returns c =
    let none : length c.loop-rest.rest.now ≡ 0 = grind (arith, c.is_empty.ensures, c.loop-rest-test.false) in
    c.loop-rest.invariant.sound [] (entries_none c.loop-rest.rest.now none)

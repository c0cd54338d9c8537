use Rattle.policy_tools.specs.Claims.{rules_of}
use Rattle.policy_tools.proofs.ReaderLemmas.{lists_at, hides_at}
use Rattle.policy_tools.proofs.readers.hidden_at.Goals as goal

pub returns-in_default : goal.returns-in_default
returns-in_default c = lists_at (rules_of c.args.claims.now) c.args.caller.now c.args.origin.now c.args.name.now c.in_ok-rights.rights c.of.result.now c.in_ok-rights.ensures c.of.ensures c.in_default.ensures

pub returns : goal.returns
returns c =
    rw c.in_ok-name.ensures (hides_at (rules_of c.args.claims.now) c.args.caller.now c.args.origin.now c.args.name.now c.in_ok-rights.rights c.of.result.now c.in-Some.record_type c.in_ok-rights.ensures c.of.ensures c.requires.name (c.is_within.ensures.test.0 c.if-not-is_within.false) c.in-Some.ensures)

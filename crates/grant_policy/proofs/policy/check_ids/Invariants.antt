use Rattle.std.proofs.Common.{◌≡◌, []}
use Rattle.grant_policy.specs.Reading.{SameIds, free_rules}
use Rattle.grant_policy.proofs.ReadLemmas.{free_from, ids_before}
use Rattle.grant_policy.proofs.policy.check_ids.Given as goal

-- the ids of the rules so far were seen, and those rules may stand before the others
abbrev pub invariant-loop-i : goal.invariant-loop-i
invariant-loop-i l = record { seen : SameIds l.ids (ids_before l.rules l.i); read : free_rules [] l.rules ≡ free_from l.rules l.i }

use Rattle.std.proofs.Common.{◌≡◌, take}
use Rattle.std.specs.List.{All}
use Rattle.dns_names.specs.Keys.{IsKeyOfOne}
use Rattle.grant_policy.specs.Index.{rows_from}
use Rattle.grant_policy.proofs.policy.Policy.indexed.Given as goal

-- a row for each rule so far, and no other name has the key of such a rule's
abbrev pub invariant-loop-number : goal.invariant-loop-number
invariant-loop-number l = record { rows : l.index.items ≡ rows_from 0 (take l.number l.rule-items); keys : All (λ rule. IsKeyOfOne rule.at) (take l.number l.rule-items) }

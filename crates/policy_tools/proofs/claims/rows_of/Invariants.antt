use Rattle.std.proofs.Common.{◌≡◌, map, take}
use Rattle.std.specs.List.{All}
use Rattle.policy_tools.specs.Claims.{IsRow, rules_of}
use Rattle.policy_tools.proofs.claims.rows_of.Given as goal

-- the rows of the names so far
abbrev pub invariant-loop-name : goal.invariant-loop-name
invariant-loop-name l = record { names : map (λ r. r.name.now) l.rows.items ≡ take l.name-index l.names; rows : All (IsRow (rules_of l.claims)) l.rows.items }

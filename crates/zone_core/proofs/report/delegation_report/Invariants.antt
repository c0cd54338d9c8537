use Rattle.std.proofs.Common.{◌≡◌, take, map}
use Rattle.std.specs.List.{AllByRecursion}
use Rattle.zone_core.specs.declared.report.Delegation.{Delegation}
use Rattle.zone_core.specs.Delegations.{IsDelegation}
use Rattle.zone_core.proofs.report.delegation_report.Given as goal

abbrev pub invariant-loop-child : goal.invariant-loop-child
invariant-loop-child l =
    (map (λ (d : Delegation). d.child) l.delegations.items ≡ take l.child-index l.child-items) × AllByRecursion (IsDelegation l.records) l.delegations.items

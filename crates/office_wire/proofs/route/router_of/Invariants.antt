use Rattle.std.proofs.Common.{◌≡◌, map, drop}
use Rattle.office_wire.specs.Routes.{with_rows, router_by}
use Rattle.office_wire.proofs.route.router_of.Given as goal

abbrev pub invariant-loop-number : goal.invariant-loop-number
invariant-loop-number l =
    with_rows l.method l.number (map (λ r. record { method = r.0; path = r.1.now; route = r.2 }) (drop l.number l.table)) l.router
    ≡ router_by l.method (map (λ r. record { method = r.0; path = r.1.now; route = r.2 }) l.table)

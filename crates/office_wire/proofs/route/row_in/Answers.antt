use Rattle.std.proofs.Common.{◌∙◌, ℕ, List, Option, sym, ap, Some}
use Rattle.std.specs.Prelude.{option_and_then}
use Rattle.matchit.specs.Router.{RouteOf}
use Rattle.office_wire.specs.declared.route.Route.{Route}
use Rattle.office_wire.specs.Routes.{RouteRow, routes, row_at}
use Rattle.office_wire.proofs.RouteLemmas.{row_there}
use Rattle.office_wire.proofs.route.row_in.Goals as goal

pub returns-in-Some : goal.returns-in-Some
returns-in-Some c =
    let number = c.in-Ok.found.value.now in
    let at = row_there (λ r. record { method = r.0; path = r.1.now; route = r.2 }) c.all_routes.result.now number c.in-Some.row.now c.in-Some.ensures.lookup.3.0 in
    let here = ap (λ (rows : List RouteRow). row_at rows number) (sym c.all_routes.ensures) ∙ at in
    let was = ap (λ (r : _ × _ × _). let o : Option (Route × List ℕ) = Some (r.2, r.1.now) in o) c.in-Some.ensures.lookup.1 in
    was ∙ sym here ∙ sym (ap (λ (o : Option (RouteOf ℕ)). option_and_then (λ r. row_at routes r.value) o) c.in-Ok.ensures.found)

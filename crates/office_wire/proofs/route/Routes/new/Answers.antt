use Rattle.std.proofs.Common.{◌∙◌, ap}
use Rattle.office_wire.specs.declared.method.Method.TheVariants.{Get, Post}
use Rattle.office_wire.specs.Routes.{router_by, router_of}
use Rattle.office_wire.proofs.route.Routes.new.Goals as goal

pub invariant_of-result : goal.invariant_of-result
unfolding router_of
invariant_of-result c = record {
  posts_are = c.in_ok-router_of.ensures ∙ ap (router_by Post) c.all_routes.ensures;
  gets_are = c.in_ok-router_of-2.ensures ∙ ap (router_by Get) c.all_routes-2.ensures;
}

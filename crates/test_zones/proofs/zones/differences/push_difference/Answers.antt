use Rattle.std.proofs.Common.{◌≡◌, ℕ, List, false, not, sym, ◌∙◌}
use Rattle.std.proofs.lemmas.Bool.{not-false}
use Rattle.dns_names.specs.Order.{same_name}
use Rattle.zone_core.proofs.SetLemmas.{name_is}
use Rattle.test_zones.proofs.zones.differences.push_difference.Goals as goal

same_origin : (a b : List (List ℕ)) → false ≡ not (same_name a b) → a ≡ b
same_origin a b e = name_is a b (not-false (same_name a b) (sym e))

pub operations_between-requires : goal.operations_between-requires
operations_between-requires c =
    sym c.origin.ensures.value ∙ same_origin c.origin.result.now c.origin-2.result.now (sym c.if-ne.false ∙ c.ne.ensures) ∙ c.origin-2.ensures.value

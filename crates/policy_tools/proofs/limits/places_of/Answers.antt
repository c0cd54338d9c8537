use Rattle.policy_tools.proofs.LimitLemmas.{are_places}
use Rattle.policy_tools.proofs.limits.places_of.Goals as goal

pub returns-clause-places : goal.returns-clause-places
returns-clause-places c =
    let adds = rw (c.in_ok-push.ensures.items, c.new-places.ensures.items) at c.in_ok-add_places_within.ensures.added in
    are_places c.args.rules.now c.args.limit.now c.in_ok-limit_place.field-0 c.add_places_within.new.places.items c.in_ok-limit_place.ensures.scope c.in_ok-limit_place.ensures.at adds

use Rattle.std.proofs.Common.{[], ◌∷◌, ◌++◌, Some, cond, refl, ap, ◌∙◌, subst}
use Rattle.std.specs.Prelude.{IsSome}
use Rattle.std.specs.BTreeMap.{get, is_at}
use Rattle.dns_names.specs.Order.{canonical_cmp}
use Rattle.zone_tools.proofs.ActorLemmas.{actor_added, items_in}
use Rattle.zone_tools.proofs.change_makers.add_actor.Goals as goal

pub returns-in_ok-push-in-Some : goal.returns-in_ok-push-in-Some
returns-in_ok-push-in-Some c =
    let there = c.in-Some.ensures.value in
    let all = c.push.new.self in
    let written = c.get_mut.follows.holds all in
    actor_added c.args.actors.now (c.get_mut.follows.lender all) c.args.name.now c.args.index all (c.in_ok-push-in-Some.ensures.items ∙ ap (λ o. items_in o ++ c.args.index ∷ []) there)
    (written.3 (subst IsSome there refl)).0

pub returns-in_ok-insert-in-None : goal.returns-in_ok-insert-in-None
returns-in_ok-insert-in-None c =
    let absent = c.in-None.ensures.value in
    let all = c.push-in-None.new.self in
    actor_added c.args.actors.now c.insert.new.self c.args.name.now c.args.index all (c.in_ok-push-in-None.ensures.items ∙ ap (λ xs. xs ++ c.args.index ∷ []) (c.new-indexes.ensures.items ∙ ap (λ o. items_in o) absent))
    (λ q.
    rw c.in_ok-try_copy-in-None.ensures at (c.in_ok-insert-in-None.ensures.updates.0 q)
    ∙ ap (λ m. cond (is_at (canonical_cmp c.args.name.now) q) (Some all) (get canonical_cmp m q)) c.get_mut.follows.holds-at-none)

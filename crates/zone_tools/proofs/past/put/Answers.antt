use Rattle.std.proofs.Common.{[], cond, Option, Some, refl, ap, ◌∙◌, subst}
use Rattle.std.specs.Prelude.{IsSome}
use Rattle.std.specs.Option.{option_map_or}
use Rattle.std.specs.BTreeMap.{BTreeMap, get, is_at}
use Rattle.dns_names.specs.Order.{canonical_cmp}
use Rattle.dns_data.specs.declared.record.Record.{Record}
use Rattle.zone_core.specs.Sets.{Key}
use Rattle.zone_tools.specs.Past.{Past}
use Rattle.zone_tools.proofs.PastLemmas.{past_put}
use Rattle.zone_tools.proofs.past.put.Goals as goal

pub returns-in_ok-insert-in-Some : goal.returns-in_ok-insert-in-Some
returns-in_ok-insert-in-Some c = λ set is.
    let there = c.in-Some.ensures.value in
    let all = c.insert.new.self in
    let written = c.get_mut.follows.holds all in
    past_put c.args.past.now (c.get_mut.follows.lender all) c.args.rr.now c.in-Some.node.now all set
    (ap (λ (o : Option (BTreeMap Key Record)). option_map_or (λ (n : BTreeMap Key Record). n.entries) o []) there) (written.3 (subst IsSome there refl)).0 c.insert.ensures.ordered is c.record_type.ensures.record
    (rw c.of.ensures at (rw c.of-in-Some.ensures at c.in_ok-insert-in-Some.ensures.updates.0))

pub returns-in_ok-insert-in-None-2 : goal.returns-in_ok-insert-in-None-2
returns-in_ok-insert-in-None-2 c = λ set is.
    let absent = c.in-None.ensures.value in
    let all = c.insert-in-None.new.self in
    past_put c.args.past.now c.insert-in-None-2.new.self c.args.rr.now c.new-node.result all set
    (c.new-node.ensures.empty ∙ ap (λ (o : Option (BTreeMap Key Record)). option_map_or (λ (n : BTreeMap Key Record). n.entries) o []) absent)
    (λ q.
    rw c.in_ok-try_copy-in-None.ensures at (c.in_ok-insert-in-None-2.ensures.updates.0 q)
    ∙ ap (λ (m : Past). cond (is_at (canonical_cmp c.args.rr.now.owner) q) (Some all) (get canonical_cmp m q)) c.get_mut.follows.holds-at-none)
    c.insert-in-None.ensures.ordered is c.record_type.ensures.record
    (rw c.of-in-None.ensures at (rw c.of-in-None-2.ensures at c.in_ok-insert-in-None.ensures.updates.0))

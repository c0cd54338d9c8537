use Rattle.std.proofs.Common.{[], Option, refl, sym, ap, subst}
use Rattle.std.specs.Prelude.{IsSome}
use Rattle.std.specs.Option.{option_map_or}
use Rattle.std.specs.BTreeMap.{BTreeMap}
use Rattle.dns_data.specs.declared.record.Record.{Record}
use Rattle.zone_core.specs.Sets.{Key, key_of, same_key, cut}
use Rattle.zone_tools.specs.Past.{Past, IsPast}
use Rattle.zone_tools.proofs.PastLemmas.{past_taken, past_bare}
use Rattle.zone_tools.proofs.past.take.Goals as goal

pub returns-in-Some : goal.returns-in-Some
returns-in-Some c = λ set is.
    let there = c.in-Some.ensures.value in
    let all = c.remove.new.self in
    let written = c.get_mut.follows.holds all in
    past_taken c.args.past.now (c.get_mut.follows.lender all) c.args.rr.now c.in-Some.node.now all set
    (ap (λ (o : Option (BTreeMap Key Record)). option_map_or (λ (n : BTreeMap Key Record). n.entries) o []) there) (written.3 (subst IsSome there refl)).0 c.remove.ensures.ordered is
    (rw c.of.ensures at c.remove.ensures.updates.0)

pub returns-in-None : goal.returns-in-None
returns-in-None c = λ set is.
    subst (λ (m : Past). IsPast m (cut set (same_key (key_of c.args.rr.now)))) (sym c.get_mut.follows.holds-at-none) (past_bare c.args.past.now c.args.rr.now set (sym c.in-None.ensures.value) is)

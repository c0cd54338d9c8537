use Rattle.std.proofs.Common.{ap, ◌∙◌, subst}
use Rattle.std.specs.List.{AllByRecursion}
use Rattle.std.proofs.lemmas.List.{take_all}
use Rattle.zone_core.specs.Updates.{IsUpdate}
use Rattle.zone_tools.specs.Past.{actors_at, actors_from}
use Rattle.zone_tools.proofs.ActorLemmas.{no_actors, actors_more, all_taken}
use Rattle.zone_tools.proofs.change_makers.actors_of.Goals as goal

pub loop-i-init : goal.loop-i-init
loop-i-init c = record { actors = no_actors c.new-actors.result c.new-actors.ensures.empty; updates = tt }

pub loop-i-preserved : goal.loop-i-preserved
loop-i-preserved c =
    let us = c.args.updates.now in
    let i = c.loop-i.i in
    let u = c.index-updates-i.result in
    record {
      actors = λ q. actors_more q us i u (actors_at c.loop-i.actors q) (actors_at c.add_update.new.actors q) c.loop-i-test.true c.index-updates-i.is (c.loop-i.invariant.actors q) (c.in_ok-add_update.ensures.added q);
      updates = all_taken IsUpdate us i u c.loop-i-test.true c.index-updates-i.is c.add_update.ensures.update c.loop-i.invariant.updates;
    }

pub returns : goal.returns
returns c =
    let all = take_all c.loop-i.i c.args.updates.now c.loop-i-test.false in
    record {
      actors = λ q. c.loop-i.invariant.actors q ∙ ap (actors_from q 0) all;
      updates = subst (AllByRecursion IsUpdate) all c.loop-i.invariant.updates;
    }

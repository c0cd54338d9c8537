use Rattle.std.proofs.Common.{◌≡◌, ◌++◌, take, true, false, sym, ap, ◌∙◌, append-nil}
use Rattle.std.proofs.lemmas.List.{take_all}
use Rattle.zone_core.specs.Updates.{acted_name}
use Rattle.zone_tools.specs.Past.{acts_at, actors_at}
use Rattle.zone_tools.proofs.ActorLemmas.{once, name_again, name_new}
use Rattle.zone_tools.proofs.change_makers.add_update.Goals.{then-not-acts_at+in_ok-add_actor, else-not-acts_at}
use Rattle.zone_tools.proofs.change_makers.add_update.Goals as goal

pub loop-i-init : goal.loop-i-init
loop-i-init c = λ q. sym (append-nil (actors_at c.args.actors.now q))

pub loop-i-preserved : goal.loop-i-preserved
loop-i-preserved c = λ q.
    let ops = c.operations-operations.result.now in
    let i = c.loop-i.i in
    let op = c.index-operations-i.result in
    let was = actors_at c.args.actors.now q in
    let now = actors_at c.loop-i.actors q in
    let below = c.loop-i-test.true in
    let is = c.index-operations-i.is in
    elim c.if-not-acts_at.branch [
      | then-not-acts_at+in_ok-add_actor w ↦
          let new : acts_at (acted_name op) (take i ops) ≡ false = rw (sym c.name.ensures, sym c.acts_at.ensures) w.if-not-acts_at.true in
          rw w.actors-is (name_new c.args.index q ops i op was now (actors_at w.add_actor.new.actors q) below is (c.loop-i.invariant q) new (rw w.name-then-not-acts_at.ensures at (w.in_ok-add_actor.ensures q)))
      | else-not-acts_at w ↦
          let again : acts_at (acted_name op) (take i ops) ≡ true = rw (sym c.name.ensures, sym c.acts_at.ensures) w.if-not-acts_at.false in
          rw w.actors-is (name_again c.args.index q ops i op was now now below is (c.loop-i.invariant q) again)
    ]

pub returns-clause-added : goal.returns-clause-added
returns-clause-added c = λ q.
    c.loop-i.invariant q
    ∙ ap (λ ops. actors_at c.args.actors.now q ++ once (acts_at q ops) c.args.index) (take_all c.loop-i.i c.operations-operations.result.now c.loop-i-test.false ∙ c.operations-operations.ensures.value)

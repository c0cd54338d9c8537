use Rattle.std.proofs.Common.{◌≡◌, take, true, sym, ap, ◌∙◌}
use Rattle.std.specs.List.{list_any}
use Rattle.std.proofs.lemmas.List.{take_all}
use Rattle.dns_names.specs.Order.{same_name}
use Rattle.zone_core.specs.Sets.{set_of, part, minus}
use Rattle.zone_core.specs.Updates.{acted_name}
use Rattle.zone_core.specs.Effects.{effects}
use Rattle.zone_core.proofs.ChangeLemmas.{touched, touch_none, touch_more, touch_again, all_removed, all_added}
use Rattle.zone_core.proofs.change.changes.Goals.{then-not-acts_at+in_ok-push_change_at, else-not-acts_at}
use Rattle.zone_core.proofs.change.changes.Goals as goal

pub loop-i-init : goal.loop-i-init
loop-i-init c =
    let a = set_of c.args.records.now in
    let b = effects c.args.origin.now a c.args.operations.now in
    (touch_none (minus a b) c.new.result.items c.new.ensures.items, touch_none (minus b a) c.new-2.result.items c.new-2.ensures.items)

pub loop-i-preserved : goal.loop-i-preserved
loop-i-preserved c =
    let a = set_of c.args.records.now in
    let ops = c.args.operations.now in
    let b = effects c.args.origin.now a ops in
    let i = c.loop-i.i in
    let op = c.index-operations-i.result in
    let below = c.loop-i-test.true in
    let is = c.index-operations-i.is in
    elim c.if-not-acts_at.branch [
      | then-not-acts_at+in_ok-push_change_at w ↦
          let grown = w.in_ok-push_change_at.ensures in
          rw w.change-is (
            touch_more (minus a b) ops i op below is c.loop-i.change.removed.items w.push_change_at.new.change.removed.items c.loop-i.invariant.0 (rw (sym w.name-then-not-acts_at.ensures) grown.removed),
            touch_more (minus b a) ops i op below is c.loop-i.change.added.items w.push_change_at.new.change.added.items c.loop-i.invariant.1 (rw (sym w.name-then-not-acts_at.ensures) grown.added),
          )
      | else-not-acts_at w ↦
          let before : list_any (λ o. same_name (acted_name o) (acted_name op)) (take i ops) ≡ true = rw (sym c.name.ensures, sym c.acts_at.ensures) w.if-not-acts_at.false in
          rw w.change-is (
            touch_again (minus a b) ops i op below is c.loop-i.change.removed.items c.loop-i.invariant.0 before,
            touch_again (minus b a) ops i op below is c.loop-i.change.added.items c.loop-i.invariant.1 before,
          )
    ]

pub returns-clause-removed : goal.returns-clause-removed
returns-clause-removed c =
    let o = c.args.origin.now in
    let a = set_of c.args.records.now in
    let ops = c.args.operations.now in
    let done = c.in_ok-in_order.ensures in
    record {
      order = done.order;
      set = done.set ∙ c.loop-i.invariant.0 ∙ ap (λ xs. part (minus a (effects o a ops)) (touched xs)) (take_all c.loop-i.i ops c.loop-i-test.false) ∙ all_removed o a ops;
    }

pub returns-clause-added : goal.returns-clause-added
returns-clause-added c =
    let o = c.args.origin.now in
    let a = set_of c.args.records.now in
    let ops = c.args.operations.now in
    let done = c.in_ok-in_order-2.ensures in
    record {
      order = done.order;
      set = done.set ∙ c.loop-i.invariant.1 ∙ ap (λ xs. part (minus (effects o a ops) a) (touched xs)) (take_all c.loop-i.i ops c.loop-i-test.false) ∙ all_added o a ops;
    }

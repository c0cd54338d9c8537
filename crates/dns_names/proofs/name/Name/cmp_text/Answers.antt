use Rattle.std.proofs.Common.{sym}
use Rattle.std.specs.List.{flat_map}
use Rattle.dns_names.specs.Spelling.{label_text}
use Rattle.dns_names.proofs.TextOrderLemmas.{labels_then, ours_ended, theirs_ended, label_passes, was_even}
use Rattle.dns_names.proofs.name.Name.cmp_text.Goals as goal

pub loop-order-init : goal.loop-order-init
loop-order-init c =
    let ours = c.head in
    let theirs = c.head-2 in (
      ours.ensures.labels,
      theirs.ensures.labels,
      rw (c.cmp_labels-order.ensures, sym c.labels-ours.ensures.labels, sym c.labels-theirs.ensures.labels, ours.ensures.text, theirs.ensures.text)
          (sym (labels_then ours.result.now theirs.result.now (flat_map label_text ours.new.labels) (flat_map label_text theirs.new.labels) ours.ensures.octets theirs.ensures.octets)),
    )

pub returns-in-None-Some : goal.returns-in-None-Some
returns-in-None-Some c =
    let l = c.loop-order in
    ours_ended l.order _ l.ours l.theirs l.invariant.2 (was_even l.order c.is_eq.result c.is_eq.ensures c.loop-order-test.true) c.in-None-Some.field-0-1.now c.next-in-loop-order.new.self c.in-None-Some.ensures.steps.0 c.in-None-Some.ensures'.steps

pub returns-in-Some-None : goal.returns-in-Some-None
returns-in-Some-None c =
    let l = c.loop-order in
    theirs_ended l.order _ l.ours l.theirs l.invariant.2 (was_even l.order c.is_eq.result c.is_eq.ensures c.loop-order-test.true) c.in-Some-None.field-0-0.now c.next.new.self c.in-Some-None.ensures.steps c.in-Some-None.ensures'.steps.0

pub loop-order-preserved : goal.loop-order-preserved
loop-order-preserved c =
    let l = c.loop-order in
    let some = c.in-Some-Some in
    rw (c.cmp_labels-order-in-Some-Some.ensures)
    (label_passes l.order _ l.ours l.theirs l.invariant.2 (was_even l.order c.is_eq.result c.is_eq.ensures c.loop-order-test.true) some.our.now some.their.now c.next.new.self c.next-in-loop-order.new.self some.ensures.steps some.ensures'.steps l.invariant.0 l.invariant.1)

use Rattle.std.proofs.Common.{◌≡◌, ◌∙◌, ap, sym, subst, ◌<◌, length, take_all}
use Rattle.zone_core.specs.Updates.{tested_name}
use Rattle.cli_updates.specs.Slots.{is_place, lent, placed_at, slots_view, tested_place}
use Rattle.cli_updates.proofs.SlotLemmas.{lent_length, lent_next, places_are, slots_length, tested_inside}
use Rattle.cli_updates.proofs.slots.slots_by_name.Goals as goal

pub put_if-requires : goal.put_if-requires
put_if-requires c = λ i e.
    let tests = c.args.tests.now in
    let t = c.test-item.result.now in
    let get = c.get.ensures.value in
    let read = rw c.name.ensures at get in
    let at : c.copied-place.result ≡ tested_place (lent tests) t = c.copied-place.ensures ∙ (read ∙ c.in_ok-places.ensures (tested_name t)) in
    subst (λ n. i < n) (lent_length tests ∙ sym c.loop-test.invariant.count) (tested_inside (lent tests) t i (sym at ∙ e))

pub loop-test-preserved : goal.loop-test-preserved
loop-test-preserved c =
    let tests = c.args.tests.now in
    let t = c.test-item.result.now in
    let get = c.get.ensures.value in
    let read = rw c.name.ensures at get in
    let l = c.loop-test in
    let at : c.copied-place.result ≡ tested_place (lent tests) t = c.copied-place.ensures ∙ (read ∙ c.in_ok-places.ensures (tested_name t)) in
    record {
      count = c.put_if.ensures.count ∙ l.invariant.count;
      placed = λ k. c.in_ok-put_if.ensures.put k ∙ rw (at, l.invariant.placed k) (lent_next (λ p. is_place k (tested_place (lent tests) p)) tests l.test-index c.test-item.result c.loop-test-test.true c.test-item.is);
    }

pub returns : goal.returns
returns c =
    let tests = c.args.tests.now in
    let l = c.loop-test in
    let slots = l.slots.items in
    places_are (tested_place (lent tests)) (lent tests) (slots_view slots) (length (lent tests)) (slots_length slots ∙ (l.invariant.count ∙ sym (lent_length tests)))
    (λ k. l.invariant.placed k ∙ ap (λ ts. placed_at (tested_place (lent tests)) (lent ts) k) (take_all l.test-index tests c.loop-test-test.false))

use Rattle.std.proofs.Common.{◌≡◌, ◌∙◌, ap, sym, subst, ◌<◌, length, None, is_none, take_all}
use Rattle.std.specs.Prelude.{if◌then◌else◌}
use Rattle.zone_core.specs.Updates.{tested_name}
use Rattle.cli_updates.specs.Slots.{acted_place, is_place, placed_at, slots_view, tests_soa}
use Rattle.cli_updates.proofs.SlotLemmas.{acted_inside, filter_next, places_are, slots_length}
use Rattle.cli_updates.proofs.slots.place_tests.Goals as goal

pub put_test-requires : goal.put_test-requires
put_test-requires c = λ i e.
    let ops = c.args.operations.now in
    let t = c.test-item.result in
    let at : c.acted_place-at.result ≡ acted_place ops t = c.acted_place-at.ensures ∙ ap (λ o. if tests_soa t then None else o) (c.in_ok-places.ensures (tested_name t)) in
    subst (λ n. i < n) (sym c.loop-test.invariant.count) (acted_inside ops t i (sym at ∙ e))

pub loop-test-preserved : goal.loop-test-preserved
loop-test-preserved c =
    let ops = c.args.operations.now in
    let tests = c.args.tests.now in
    let t = c.test-item.result in
    let l = c.loop-test in
    let at : c.acted_place-at.result ≡ acted_place ops t = c.acted_place-at.ensures ∙ ap (λ o. if tests_soa t then None else o) (c.in_ok-places.ensures (tested_name t)) in
    record {
      count = c.put_test.ensures.count ∙ l.invariant.count;
      before = c.in_ok-put_test.ensures.before ∙ rw (at, l.invariant.before) (filter_next (λ p. is_none (acted_place ops p)) tests l.test-index t c.loop-test-test.true c.test-item.is);
      beside = λ k. c.in_ok-put_test.ensures.beside k ∙ rw (at, l.invariant.beside k) (filter_next (λ p. is_place k (acted_place ops p)) tests l.test-index t c.loop-test-test.true c.test-item.is);
    }

pub returns-clause-beside : goal.returns-clause-beside
returns-clause-beside c =
    let ops = c.args.operations.now in
    let l = c.loop-test in
    let slots = l.placed.beside.items in
    places_are (acted_place ops) c.args.tests.now (slots_view slots) (length ops) (slots_length slots ∙ l.invariant.count)
    (λ k. l.invariant.beside k ∙ ap (λ tests. placed_at (acted_place ops) tests k) (take_all l.test-index c.args.tests.now c.loop-test-test.false))

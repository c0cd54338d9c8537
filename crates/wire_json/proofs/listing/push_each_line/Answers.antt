use Rattle.std.proofs.Common.{◌≡◌, ℕ, ◌+◌, ◌≤◌, List, ◌++◌, length, drop, ap, subst, arith, rules, Option, Bor, ◌∙◌}
use Rattle.office_model.specs.RecordLines.{IsFirst}
use Rattle.wire_json.specs.Json.{quoted}
use Rattle.wire_json.specs.Appending.{comma_before}
use Rattle.wire_json.specs.Replies.{line_value}
use Rattle.wire_json.proofs.AppendLemmas.{item_pushed, items_done}
use Rattle.wire_json.proofs.RecordLineLemmas.{records_left, next_line, no_next_line, line_shorter}
use Rattle.wire_json.proofs.listing.push_each_line.Goals as goal

pub loop-line-smaller : goal.loop-line-smaller
loop-line-smaller c =
    let rs = c.args.lines.now in
    let n = c.loop-line.number in
    let first = c.first_line.ensures (drop n rs) (records_left n rs c.text-rest.ensures.records) c.loop-line.invariant.rest in
    let cut = subst (λ (f : Option (Bor (List ℕ) × Bor (List ℕ))). IsFirst (drop n rs) f) c.in-Some.is first in
    let next = next_line rs n (c.in-Some.line, c.in-Some.more) c.loop-line.invariant.few cut in
    let shorter = line_shorter rs n (c.in-Some.line, c.in-Some.more) next in
    let same = ap (λ (l : List ℕ). length l) c.loop-line.invariant.rest in
    omega (arith, shorter, same)

pub loop-line-preserved : goal.loop-line-preserved
loop-line-preserved c =
    let rs = c.args.lines.now in
    let n = c.loop-line.number in
    let first = c.first_line.ensures (drop n rs) (records_left n rs c.text-rest.ensures.records) c.loop-line.invariant.rest in
    let cut = subst (λ (f : Option (Bor (List ℕ) × Bor (List ℕ))). IsFirst (drop n rs) f) c.in-Some.is first in
    let next = next_line rs n (c.in-Some.line, c.in-Some.more) c.loop-line.invariant.few cut in
    let shorter = line_shorter rs n (c.in-Some.line, c.in-Some.more) next in
    let same = ap (λ (l : List ℕ). length l) c.loop-line.invariant.rest in
    let put = c.in_ok-push_text.ensures.ok ∙ ap (λ (text : List ℕ). c.loop-line.out.items ++ (comma_before n ++ quoted text)) next.3 in
    record {
      text = search rules;
      pushed = item_pushed line_value rs n next.0 c.args.out.now.items c.loop-line.out.items c.push_text.new.out.items next.1 next.2 c.loop-line.invariant.pushed put;
      rest = next.4;
      few = let lt = next.1 in omega (arith, lt);
      fits = omega (arith, c.loop-line.invariant.fits, shorter, same);
      room = omega (arith, c.loop-line.invariant.room, c.in_ok-push_text.ensures.capacity);
    }

pub returns : goal.returns
returns c =
    let rs = c.args.lines.now in
    let n = c.loop-line.number in
    let first = c.first_line.ensures (drop n rs) (records_left n rs c.text-rest.ensures.records) c.loop-line.invariant.rest in
    let none = subst (λ (f : Option (Bor (List ℕ) × Bor (List ℕ))). IsFirst (drop n rs) f) c.in_default.is first in
    record {
      ok = items_done line_value rs n c.args.out.now.items c.loop-line.out.items (no_next_line rs n c.loop-line.invariant.few none) c.loop-line.invariant.pushed;
      front = tt;
      capacity = c.loop-line.invariant.room;
    }

use Rattle.std.proofs.Common.{sym, ◌∙◌, not}
use Rattle.std.proofs.lemmas.Bool.{both_ways, and_from, not-true, not_from_false}
use Rattle.policy_tools.specs.Points.{has_point}
use Rattle.policy_tools.proofs.ClaimLemmas.{shared_some, some_shared}
use Rattle.policy_tools.proofs.TakeLemmas.{fst, snd}
use Rattle.policy_tools.proofs.taking.takes.Goals as goal

pub returns-then-meets : goal.returns-then-meets
returns-then-meets c = λ before same.
    let left = c.args.entry.left.bits in
    let gone = c.args.decided.bits in (
      λ yes'.
          let m = c.meets.ensures.0 c.if-meets.true in
          let t = m.record_type in
          let a = m.action in
          let both = sym (c.without.ensures t a) ∙ m.in_other in
          let who = shared_some c.shared.result _ c.shared.ensures (sym c.is_some.ensures ∙ yes') in
          record {
            record_type = t;
            action = a;
            callers = who.0;
            own = m.in_one;
            left = fst (has_point left t a) (not (has_point gone t a)) both;
            undecided = sym (same t a) ∙ not-true (has_point gone t a) (snd (has_point left t a) (not (has_point gone t a)) both);
            shared = who.1;
          },
      λ takes. c.is_some.ensures ∙ some_shared c.shared.result _ takes.callers c.shared.ensures takes.shared,
    )

pub returns-else-meets : goal.returns-else-meets
returns-else-meets c = λ before same.
    let left = c.args.entry.left.bits in
    let gone = c.args.decided.bits in (
      λ yes'. absurd (both_ways c.meets.result c.if-meets.false yes'),
      λ takes.
          let t = takes.record_type in
          let a = takes.action in
          c.meets.ensures.1 (record {
            record_type = t;
            action = a;
            in_one = takes.own;
            in_other = c.without.ensures t a ∙ and_from (has_point left t a) (not (has_point gone t a)) takes.left (not_from_false (has_point gone t a) (same t a ∙ takes.undecided));
          }),
    )

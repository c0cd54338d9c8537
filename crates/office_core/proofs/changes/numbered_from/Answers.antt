use Rattle.std.proofs.Common.{◌+◌, ◌++◌, List, length, map, sym, ap, ◌∙◌, arith}
use Rattle.office_model.specs.declared.reply.SeenChange.{SeenChange}
use Rattle.office_model.specs.Replies.{NumberedOf, numbered_of, seen_in}
use Rattle.office_core.specs.Machine.{numbered}
use Rattle.office_core.proofs.NumberLemmas.{from_on, next_numbered}
use Rattle.office_core.proofs.changes.numbered_from.Goals as goal

pub loop-change-preserved : goal.loop-change-preserved
loop-change-preserved c =
    let number = c.loop-change.number + 1 in
    let before : List NumberedOf = map numbered_of c.loop-change.all.items in
    let rest = c.next.new.self.rest.items in
    record {
      count = omega (arith, ap length c.in-Some.ensures.steps.0);
      all =
          ap (λ (l : List NumberedOf). l ++ from_on c.args.from (numbered (number + 1) (map seen_in rest))) c.in_ok-push_numbered.ensures
          ∙ next_numbered c.args.from number (seen_in c.in-Some.change) (map seen_in rest) before
          ∙ ap (λ (cs : List SeenChange). before ++ from_on c.args.from (numbered number (map seen_in cs))) (sym c.in-Some.ensures.steps.0)
          ∙ c.loop-change.invariant.all;
    }

use Rattle.std.proofs.Common.{◌<◌, Bool, ◌||◌, length, take, sym, ap, ◌∙◌, subst, arith}
use Rattle.std.proofs.lemmas.Bool.{both_ways}
use Rattle.policy_tools.specs.declared.claims.Entry.{Entry}
use Rattle.policy_tools.specs.Points.{has_point}
use Rattle.policy_tools.proofs.ClaimLemmas.{item_at, mark_yes, mark_no, decided_yes, decided_no, hits_first, hits_done}
use Rattle.policy_tools.proofs.taking.mark.Goals as goal
use Rattle.policy_tools.proofs.taking.mark.Goals.{then-takes, else-takes, then-include_all, else-include_all}

pub loop-entry-preserved : goal.loop-entry-preserved
loop-entry-preserved c =
    let claim = c.args.claim in
    let callers = claim.rule.now.callers in
    let entries = c.args.entries.now in
    let n = c.loop-entry.entry-index in
    let e = c.entry-item.result in
    let lt = c.loop-entry-test.true in
    let at = item_at entries n e lt c.entry-item.is in
    let tells = c.takes.ensures (take n entries) c.loop-entry.invariant.decided in
    let within : e.number < length c.loop-entry.found = omega (arith, c.loop-entry.auto.found, subst (λ (x : Entry). x.number < length c.args.found.now) (sym c.entry-item.is) (c.requires n e lt)) in
    record {
      marks = elim c.if-takes.branch [
        | then-takes w ↦ rw w.found-is (mark_yes c.args.found.now c.loop-entry.found claim entries n e at within (tells.0 w.if-takes.true) c.loop-entry.invariant.marks)
        | else-takes w ↦ rw w.found-is (mark_no c.args.found.now c.loop-entry.found claim entries n e at (λ t. both_ways c.takes.result w.if-takes.false (tells.1 t)) c.loop-entry.invariant.marks)
      ];
      decided = elim c.if-include_all.branch [
        | then-include_all w ↦ rw w.decided-is (λ t a. w.with-decided.ensures t a ∙ ap (λ (b : Bool). b || has_point e.claim.points.bits t a) (c.loop-entry.invariant.decided t a) ∙ decided_yes entries n e callers t a lt c.entry-item.is (sym c.include_all.ensures ∙ w.if-include_all.true))
        | else-include_all w ↦ rw w.decided-is (λ t a. c.loop-entry.invariant.decided t a ∙ decided_no entries n e callers t a lt c.entry-item.is (sym c.include_all.ensures ∙ w.if-include_all.false))
      ];
    }

pub loop-entry-init : goal.loop-entry-init
loop-entry-init c = record { marks = hits_first c.args.found.now c.args.claim c.args.entries.now; decided = λ t a. c.none-decided.ensures t a }

pub returns : goal.returns
returns c = λ j below. hits_done c.args.found.now c.loop-entry.found c.args.claim c.args.entries.now c.loop-entry.entry-index c.loop-entry-test.false c.loop-entry.auto.entry-index-end c.loop-entry.invariant.marks j (omega (arith, below, c.loop-entry.auto.found))

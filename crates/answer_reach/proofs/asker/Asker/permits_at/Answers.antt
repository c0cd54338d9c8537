use Rattle.std.proofs.Common.{◌≡◌, ◌==◌, List, length, sym, ap, subst, ◌∙◌}
use Rattle.std.specs.List.{list_all}
use Rattle.std.proofs.lemmas.Bool.{eqb-true}
use Rattle.zone_core.specs.declared.update.Prerequisite.{Prerequisite}
use Rattle.zone_core.specs.declared.update.Operation.{Operation}
use Rattle.zone_core.specs.Zones.{ZoneOf}
use Rattle.zone_core.specs.Updates.{ActsWithin, acted_name}
use Rattle.zone_answers.specs.Answers.{Name}
use Rattle.answer_reach.specs.ReachTests.{has_name}
use Rattle.answer_reach.specs.Trials.{permits}
use Rattle.answer_reach.proofs.TrialLemmas.{is_tried, none_is}
use Rattle.answer_reach.proofs.asker.Asker.permits_at.Goals as goal

pub returns : goal.returns
returns c =
    let s = c.args.self.now in
    let rules = s.rights.now.rules in
    let caller = s.rights.now.caller in
    let origin = s.index.now.origin in
    let update = c.args.update.now in
    let covered = c.args.covered.now in
    let ops : c.operations-operations.result.now ≡ update.operations = c.operations-operations.ensures.value in
    let home : c.origin.result.now ≡ origin = c.origin.ensures.value ∙ ap (λ (z : ZoneOf). z.origin) c.zone.ensures in
    let bare : length update.prerequisites ≡ 0 =
    eqb-true (length update.prerequisites) 0
    (ap (λ (ps : List Prerequisite). length ps == 0) (sym c.prerequisites.ensures.value) ∙ sym c.is_empty.ensures ∙ c.if-not-is_empty.false) in
    let within : ActsWithin origin update =
    subst (λ (n : Name). ActsWithin n update) home (c.outside.ensures.inside.0 (none_is c.outside.result (sym c.is_some.ensures ∙ c.if-is_some.false))) in
    is_tried rules caller origin covered update c.act_at.result c.operations-operations.ensures.update within bare
    (ap (list_all (permits rules caller origin)) (sym ops) ∙ sym c.permits_all.ensures ∙ c.if-not-permits_all.false)
    (c.act_at.ensures ∙ ap (list_all (λ (op : Operation). has_name covered (acted_name op))) ops)

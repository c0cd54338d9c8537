use Rattle.std.proofs.Common.{◌≡◌, List, sym, ap, subst, ◌∙◌}
use Rattle.std.specs.List.Sorted.{IsSorted}
use Rattle.dns_names.specs.Order.{canonical_cmp}
use Rattle.zone_core.specs.Zones.{ZoneOf}
use Rattle.zone_core.specs.Updates.{ActsWithin}
use Rattle.zone_core.specs.Effects.{zone_after}
use Rattle.zone_core.specs.Parts.{part_of, at_names}
use Rattle.zone_answers.specs.Answers.{Name}
use Rattle.answer_reach.specs.Trials.{IsTried}
use Rattle.answer_reach.proofs.DifferLemmas.{told}
use Rattle.answer_reach.proofs.asker.Asker.trial.Goals as goal

pub permits_at-requires : goal.permits_at-requires
permits_at-requires c = subst (λ (names : List Name). IsSorted canonical_cmp names) (sym c.deref.ensures.value) c.requires

pub apply_owned-requires : goal.apply_owned-requires
apply_owned-requires c =
    let s = c.args.self.now in
    let home : c.in_ok-part.part.origin ≡ s.index.now.origin = ap (λ (z : ZoneOf). z.origin) (c.in_ok-part.ensures) ∙ ap (λ (z : ZoneOf). z.origin) c.zone.ensures in
    let tried = told c.permits_at.result (IsTried s.rights.now.rules s.rights.now.caller s.index.now.origin c.deref.result.now c.args.update) c.permits_at.ensures c.if-not-permits_at.false in
    subst (λ (n : Name). ActsWithin n c.args.update) (sym home) tried.within

pub returns : goal.returns
returns c =
    let s = c.args.self.now in
    let update = c.args.update in
    let tried = told c.permits_at.result (IsTried s.rights.now.rules s.rights.now.caller s.index.now.origin c.deref.result.now update) c.permits_at.ensures c.if-not-permits_at.false in
    record {
      order = c.requires;
      tried = subst (λ (names : List Name). IsTried s.rights.now.rules s.rights.now.caller s.index.now.origin names update) c.deref.ensures.value tried;
      after =
          c.in_ok-after.ensures ∙ c.in_ok-outcome.ensures.zone ∙ ap (λ (z : ZoneOf). zone_after z update) c.in_ok-part.ensures
          ∙ (λ i. zone_after (part_of (c.zone.ensures i) (at_names (c.zone.ensures i).origin (c.deref-2.ensures.value i))) update);
    }

use Rattle.std.proofs.Common.{◌≡◌, List, Bool, not, sym, ap, subst, ◌∙◌}
use Rattle.std.specs.List.{list_any, filter}
use Rattle.std.specs.List.Sorted.{IsSorted}
use Rattle.dns_names.specs.Order.{canonical_cmp}
use Rattle.zone_core.specs.Sets.{listing}
use Rattle.zone_core.specs.Zones.{ZoneOf}
use Rattle.zone_answers.specs.Answers.{Name}
use Rattle.answer_reach.specs.Rights.{may_grant}
use Rattle.answer_reach.specs.ReachTests.{is_wildcard_alias, wildcards_above}
use Rattle.answer_reach.proofs.PlaceLemmas.{glue_sorted}
use Rattle.answer_reach.proofs.asker.Asker.whole.Goals as goal

pub returns : goal.returns
returns c =
    let free : Name → Bool = λ n. not (may_grant c.args.self.now.rights.now.rules c.args.self.now.rights.now.caller n) in
    let glue : c.in_ok-ungranted.field-0.items ≡ filter free c.args.lists.now.openers.items = c.in_ok-ungranted.ensures ∙ ap (filter free) c.deref.ensures.value in
    record {
      above = c.in_ok-wildcards_above.ensures ∙ ap (wildcards_above c.args.self.now.rights.now.rules c.args.self.now.rights.now.caller c.args.self.now.index.now.origin (listing c.args.self.now.index.now.records) c.args.lists.now) (c.origin.ensures.value ∙ ap (λ (z : ZoneOf). z.origin) c.zone-zone.ensures);
      aliases = c.has_wildcard_alias.ensures ∙ ap (list_any is_wildcard_alias) (c.records.ensures.value ∙ ap (λ (z : ZoneOf). listing z.records) c.zone-zone.ensures);
      glue = glue;
      sorted = subst (λ (l : List Name). IsSorted canonical_cmp l) (sym glue) (glue_sorted free c.args.lists.now.openers.items c.requires.openers);
    }

use Rattle.std.proofs.Common.{◌≡◌, Some, sym, ap, ◌∙◌}
use Rattle.dns_names.specs.Order.{same_name}
use Rattle.zone_core.specs.Sets.{listing}
use Rattle.zone_core.proofs.SetLemmas.{name_is}
use Rattle.answer_reach.proofs.GrowLemmas.{sorted_names_of}
use Rattle.answer_reach.proofs.ExampleLemmas.{in_group, not_false}
use Rattle.answer_reach.proofs.asker.Asker.unknown_child.Goals as goal

pub has_name-requires : goal.has_name-requires
has_name-requires c = sorted_names_of c.args.known.now _ c.requires

pub returns : goal.returns
returns c =
    let s = c.args.self.now in
    let above = c.args.above.now in
    let parent = c.in-Some-2.parent in
    let same : parent ≡ above = name_is parent above (not_false (same_name parent above) (sym c.ne.ensures ∙ c.if-ne.false)) in
    in_group s.index.now.origin s.rights.now.rules (listing s.index.now.records) c.args.known.now c.requires c.in-Some.name above (sym c.in_ok-parent.ensures ∙ c.in-Some-2.is ∙ ap Some same)
    (sym c.has_name.ensures ∙ c.if-has_name.false) (sym c.is_inside.ensures ∙ c.if-not-is_inside.false)

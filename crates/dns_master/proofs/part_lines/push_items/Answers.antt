use Rattle.std.proofs.Common.{Bool, ◌++◌, ◌+◌, ◌∙◌, ap, refl, map, drop, false}
use Rattle.dns_data.specs.Items.{item_of}
use Rattle.dns_master.specs.OtherTypes.{has_keys}
use Rattle.dns_master.specs.Joined.{flagged, flagged_text}
use Rattle.dns_master.proofs.OtherLemmas.{flagged_more}
use Rattle.dns_master.proofs.part_lines.push_items.Goals as goal

pub loop-item-init : goal.loop-item-init
loop-item-init c = rw (c.new-spacing.ensures.keys, c.new-spacing.ensures.first) refl

pub loop-item-preserved : goal.loop-item-preserved
loop-item-preserved c =
    let l = c.loop-item in
    let next = c.after-spacing.result in
    ap (λ (keys : Bool). c.push_spaced.new.text.items ++ flagged_text (flagged keys next.after_key (drop (l.item-index + 1) (map item_of c.args.items.now)))) c.after-spacing.ensures.keys
    ∙ flagged_more c.args.items.now l.item-index _ l.spacing.has_keys l.spacing.after_key next.after_key l.text.items c.push_spaced.new.text.items
    (c.args.text.now.items ++ flagged_text (flagged (has_keys c.args.kind.now) false (map item_of c.args.items.now))) c.loop-item-test.true c.in_ok-push_spaced.ensures c.after-spacing.ensures.key l.invariant

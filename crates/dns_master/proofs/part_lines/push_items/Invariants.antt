use Rattle.std.proofs.Common.{◌≡◌, ◌++◌, map, drop, false}
use Rattle.dns_data.specs.Items.{item_of}
use Rattle.dns_master.specs.OtherTypes.{has_keys}
use Rattle.dns_master.specs.Joined.{flagged, flagged_text}
use Rattle.dns_master.proofs.part_lines.push_items.Given as goal

abbrev pub invariant-loop-item : goal.invariant-loop-item
invariant-loop-item l =
    l.text.items ++ flagged_text (flagged l.spacing.has_keys l.spacing.after_key (drop l.item-index (map item_of l.items)))
    ≡ l.initial.text.items ++ flagged_text (flagged (has_keys l.kind) false (map item_of l.items))

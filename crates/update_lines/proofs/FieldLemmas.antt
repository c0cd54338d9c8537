-- Entries that are too short.
use Rattle.std.proofs.Common.{◌≡◌, ◌<◌, List, [], ◌∷◌, length, map, None, refl, arith}
use Rattle.dns_data.specs.declared.item.Item.{Item}
use Rattle.dns_data.specs.Items.{item_of}
use Rattle.update_lines.specs.Reading.{record_at}

pub record_short : (xs : List Item) → length xs < 2 → record_at (map item_of xs) ≡ None
record_short [] h = refl
record_short (a ∷ []) h = refl
record_short (a ∷ b ∷ xs) h = absurd (omega arith)

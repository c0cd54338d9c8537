-- What the calls of the reader take and answer: tokens by their entries, and the lists of items.
use Rattle.std.specs.Prelude.{ℕ, List, [], ◌∷◌, map, Bool, true, false, ◌==◌}
use Rattle.dns_data.specs.Items.{ItemText, item_of}
use Rattle.dns_master.specs.declared.token.Token.{Token}
use Rattle.dns_master.specs.Tokens.{TokenText}
use Rattle.zone_core.specs.Updates.{UpdateOf}
use Rattle.update_lines.specs.declared.lines.ItemLists.{ItemLists}
use Rattle.update_lines.specs.Reading.{EntryLine}

-- the items of tokens, without their places
abbrev pub entry_of : List Token → List ItemText
entry_of tokens = map item_of (map (λ t. t.item) tokens)

-- whether the first of these tokens is of this entry
abbrev pub goes_on : ℕ → List TokenText → Bool
goes_on entry [] = false
goes_on entry (t ∷ ts) = t.entry == entry

-- a token before entries, of which the first goes on with it or not
abbrev pub before : Bool → TokenText → List EntryLine → List EntryLine
before true t (e ∷ es) = (record { line = t.line; items = t.item ∷ e.items }) ∷ es
before more t es = (record { line = t.line; items = t.item ∷ [] }) ∷ es

-- tokens gathered by their entry, each with the line of its first
abbrev pub gathered : List TokenText → List EntryLine
gathered [] = []
gathered (t ∷ ts) = before (goes_on t.entry ts) t (gathered ts)

-- the prerequisites and the operations that were read
abbrev pub lists_view : ItemLists → UpdateOf
lists_view lists = record { prerequisites = lists.prerequisites.items; operations = lists.operations.items }

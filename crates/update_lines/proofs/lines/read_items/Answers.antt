use Rattle.update_lines.specs.ItemLines.{IsUpdateText}
use Rattle.update_lines.specs.Reading.{items_of}
use Rattle.update_lines.proofs.UpdateLaws.{text_found, text_only, given}
use Rattle.update_lines.proofs.lines.read_items.Goals as goal

pub returns-clause-found : goal.returns-clause-found
returns-clause-found c =
    let text = c.args.text.now in
    given (IsUpdateText text) c.items_of.result (items_of text) (λ u e. text_found text u c.reveal_octets.ensures e) c.items_of.ensures.exact

pub returns-clause-only : goal.returns-clause-only
returns-clause-only c = λ update h. rw (← text_only c.args.text.now update h) c.items_of.ensures.exact

use Rattle.std.proofs.Common.{◌∙◌, sym}
use Rattle.cli_updates.proofs.SlotLemmas.{put, there}
use Rattle.cli_updates.proofs.slots.put_place.Goals as goal

pub returns-in_ok-insert : goal.returns-in_ok-insert
returns-in_ok-insert c = λ q.
    let at = c.in_ok-insert.ensures.updates.0 q in
    let copied = c.in_ok-try_copy.ensures in
    let read = rw copied at at in
    read ∙ put c.args.places.now c.args.name.now q c.args.place (sym c.contains_key.ensures ∙ c.if-not-contains_key.true)

pub returns-else-not-contains_key : goal.returns-else-not-contains_key
returns-else-not-contains_key c = λ q. there c.args.places.now c.args.name.now q c.args.place (sym c.contains_key.ensures ∙ c.if-not-contains_key.false)

use Rattle.std.proofs.Common.{map}
use Rattle.dns_data.specs.Items.{item_of}
use Rattle.dns_data.specs.Reading.{joined}
use Rattle.dns_data.proofs.JoinedLaws.{joins, is_quoted, all_joined}
use Rattle.dns_data.proofs.fields.joined.Goals as goal

pub returns-then-item : goal.returns-then-item
returns-then-item c =
    let l = c.loop-item in
    let items = c.args.items.now in
    is_quoted l.octets.items items l.item-index _ (joined (map item_of items)) c.loop-item-test.true l.invariant c.if-item.true

pub loop-item-preserved : goal.loop-item-preserved
loop-item-preserved c =
    let l = c.loop-item in
    let items = c.args.items.now in
    rw c.in_ok-extend_from_slice.ensures.items (joins l.octets.items items l.item-index _ (joined (map item_of items)) c.loop-item-test.true l.invariant c.if-item.false)

pub returns : goal.returns
returns c =
    let l = c.loop-item in
    let items = c.args.items.now in
    all_joined l.octets.items items l.item-index (joined (map item_of items)) c.loop-item-test.false l.invariant

use Rattle.store_rows.proofs.GatheringLaws.{placed_is}
use Rattle.store_rows.proofs.gathering.place.Goals as goal

pub returns : goal.returns
returns c =
    placed_is c.args.changes.now.items c.opened.new.changes.items c.pop.new.self.items c.push.new.self.items c.in-Some.last c.in_ok-with_record.field-0 c.args.changed c.in_ok-opened.ensures c.in-Some.ensures.items c.in_ok-with_record.ensures
    c.in_ok-push.ensures.items

use Rattle.std.proofs.Common.{is_ok}
use Rattle.office_core.proofs.BookmarkLemmas.{kept_with, kept_without}
use Rattle.office_core.proofs.bookmark.Bookmarks.put.Goals as goal

pub returns : goal.returns
returns c = λ rules s right one.
    let left = kept_without rules s c.args.self.now.rows.items c.take.new.self.rows.items c.args.bookmark right c.take.ensures in
    kept_with rules s c.make_room.new.self.rows.items c.push.new.self.items c.args.bookmark (is_ok c.push.result) (c.make_room.ensures rules s left) one c.push.ensures.items

use Rattle.office_core.specs.Bookmarks.{AreBookmarks}
use Rattle.office_core.proofs.BookmarkLemmas.{and_right, bookmarks_stay}
use Rattle.office_core.proofs.steps.step_with_bookmarks.Goals as goal

pub returns-in-Ok-clause-step : goal.returns-in-Ok-clause-step
returns-in-Ok-clause-step g c = λ honest s holds right.
    let rules = c.args.policy.now in
    and_right (g.T.ZoneTable.holds c.answer.new.table) (λ t. AreBookmarks rules t c.answer.new.bookmarks) rules s c.args.caller.now c.args.request.now c.in-Ok.reply c.in-Ok.ensures.answers
    (c.in-Ok.ensures.takes honest s holds right)
    (bookmarks_stay rules s c.args.caller.now c.args.request.now c.answer.new.bookmarks.rows.items (c.in-Ok.ensures.bookmarks honest s holds right))

use Rattle.office_core.specs.Bookmarks.{AreBookmarks}
use Rattle.office_core.proofs.BookmarkLemmas.{only_held}
use Rattle.office_core.proofs.steps.step.Goals as goal

pub returns-clause-step : goal.returns-clause-step
returns-clause-step g c = λ honest s holds.
    let rules = c.args.policy.now in
    only_held (g.T.ZoneTable.holds c.step_with_bookmarks.new.table) (λ t. AreBookmarks rules t c.step_with_bookmarks.new.bookmarks) rules s c.args.caller.now c.args.request.now
    c.step_with_bookmarks.result (c.step_with_bookmarks.ensures.step honest s holds (c.new-bookmarks.ensures rules s))

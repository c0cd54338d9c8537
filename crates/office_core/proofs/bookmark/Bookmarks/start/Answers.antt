use Rattle.std.proofs.Common.{◌≡◌, ◌<◌, List, length, get_or, sym, subst, ◌∙◌}
use Rattle.office_core.specs.declared.bookmark.Bookmark.{Bookmark}
use Rattle.office_core.proofs.BookmarkLemmas.{found_start}
use Rattle.office_core.proofs.bookmark.Bookmarks.start.Goals as goal

pub returns-then-is_of : goal.returns-then-is_of
returns-then-is_of c = λ rules s held right e.
    let i = c.loop-bookmark.bookmark-index in
    let b = c.bookmark-item.result in
    let same = c.deref-bookmark-items.ensures.value in
    found_start rules s c.args.self.now.rows.items i b c.args.caller.now c.args.origin.now c.args.from held c.start.result right
    (subst (λ (rows : List Bookmark). i < length rows) same c.loop-bookmark-test.true) (subst (λ (rows : List Bookmark). b ≡ get_or rows i b) same c.bookmark-item.is)
    (sym c.is_of.ensures ∙ c.if-is_of.true) e (c.start.ensures rules held.changes)

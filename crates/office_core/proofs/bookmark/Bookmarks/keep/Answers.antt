use Rattle.std.proofs.Common.{IfSome, Option, subst}
use Rattle.office_core.specs.Bookmarks.{IsPoint}
use Rattle.office_core.specs.declared.bookmark.Point.{Point}
use Rattle.office_core.proofs.BookmarkLemmas.{right_bookmark}
use Rattle.office_core.proofs.bookmark.Bookmarks.keep.Goals as goal

pub returns : goal.returns
returns c = λ rules s right points.
    c.put.ensures rules s right
    (right_bookmark rules s c.in-Ok.bookmark c.args.caller.now c.args.origin.now c.args.began c.in-Some.ended c.in-Ok.ensures
    (λ held is.
    let both = points held is in
    (both.0, subst (λ (o : Option Point). IfSome o (λ point. IsPoint rules c.args.caller.now held.changes point)) c.in-Some.is both.1)))

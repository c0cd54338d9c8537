use Rattle.std.proofs.Common.{rules, not}
use Rattle.zone_core.proofs.RetainLemmas.{retain_is}
use Rattle.office_core.specs.Bookmarks.{is_of}
use Rattle.office_core.specs.declared.bookmark.Bookmark.{Bookmark}
use Rattle.office_core.proofs.bookmark.Bookmarks.take.Goals as goal

pub returns : goal.returns
returns c =
    retain_is _ (λ (row : Bookmark). not (is_of c.args.bookmark.now.caller c.args.bookmark.now.origin row)) _ (λ x b g k. search rules) c.args.self.now.rows.items c.retain.new.self.items
    c.retain.ensures.filtered

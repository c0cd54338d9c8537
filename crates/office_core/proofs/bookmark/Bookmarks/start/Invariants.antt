use Rattle.office_core.proofs.bookmark.Bookmarks.start.Given as goal

abbrev pub invariant-loop-bookmark : goal.invariant-loop-bookmark
invariant-loop-bookmark l = Unit {0}

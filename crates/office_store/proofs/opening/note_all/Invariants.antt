use Rattle.std.proofs.Common.{◌≡◌, [], take}
use Rattle.store_rows.specs.ChangeRows.{gathered}
use Rattle.store_cache.specs.History.{KnowsAll}
use Rattle.office_store.proofs.opening.note_all.Given as goal

abbrev pub invariant-loop-one : goal.invariant-loop-one
invariant-loop-one l = record {
  origin : l.history.origin ≡ l.initial.history.origin;
  all : KnowsAll l.initial.history [] → KnowsAll l.history (gathered (take l.one-index l.changed));
}

use Rattle.std.proofs.Common.{◌≡◌, map, take}
use Rattle.zone_core.specs.Sets.{listing}
use Rattle.answer_reach.specs.ReachTests.{row_of, rows_for}
use Rattle.answer_reach.proofs.asker.Asker.rows_for.Given as goal

abbrev pub invariant-loop-name : goal.invariant-loop-name
invariant-loop-name l = map row_of l.rows.items ≡ rows_for l.self.rights.now.rules l.self.rights.now.caller l.self.index.now.origin (listing l.self.index.now.records) l.lists (take l.name-index l.names)

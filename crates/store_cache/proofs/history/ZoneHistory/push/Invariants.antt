use Rattle.std.proofs.Common.{◌≡◌, ◌+◌, List, length, map, take, drop}
use Rattle.zone_core.specs.Changes.{ChangeOf, change_in}
use Rattle.store_cache.specs.History.{AreTouched}
use Rattle.store_cache.proofs.history.ZoneHistory.push.Given as goal

abbrev pub invariant-loop-change : goal.invariant-loop-change
invariant-loop-change l = record {
  origin : l.self.origin ≡ l.fn.self.origin;
  many : length l.self.changes.items ≡ length l.fn.self.changes.items + l.change-index;
  touched : (cs : List ChangeOf) → AreTouched l.fn.self.origin l.fn.self.changes.items cs → map change_in l.changes ≡ take (length l.changes) (drop (length l.fn.self.changes.items) cs) → AreTouched l.fn.self.origin l.self.changes.items cs;
}

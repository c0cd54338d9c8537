use Rattle.std.proofs.Common.{◌≡◌, ◌+◌, ◌≤◌, ◌++◌, length, map}
use Rattle.std.specs.Vec.Iter.{into_iter_items}
use Rattle.zone_core.specs.Changes.{change_in}
use Rattle.office_model.specs.Replies.{seen_in}
use Rattle.office_core.specs.Machine.{seen}
use Rattle.office_core.proofs.changes.Seen.push.Given as goal

-- what is seen of those so far, and then of the changes that are left
abbrev pub invariant-loop-change : goal.invariant-loop-change
invariant-loop-change l = record {
  read : l.self.read ≡ l.fn.self.read + length l.fn.changes.items;
  fits : l.self.read ≤ 4294967295;
  same : l.grants ≡ l.fn.grants;
  all : map seen_in l.self.changes.items ++ seen l.fn.grants.rules l.fn.grants.caller (map change_in (into_iter_items l.change-iterator))
      ≡ map seen_in l.fn.self.changes.items ++ seen l.fn.grants.rules l.fn.grants.caller (map change_in l.fn.changes.items);
}

use Rattle.std.proofs.Common.{◌≡◌, ◌+◌, ◌++◌, map, length, nat_le}
use Rattle.std.specs.List.{filter}
use Rattle.std.specs.Vec.Iter.{into_iter_items}
use Rattle.office_model.specs.Replies.{NumberedOf, numbered_of, seen_in}
use Rattle.office_core.specs.Machine.{numbered}
use Rattle.office_core.proofs.changes.numbered_from.Given as goal

-- those so far, and then those of the changes that are left
abbrev pub invariant-loop-change : goal.invariant-loop-change
invariant-loop-change l = record {
  count : l.number + length (into_iter_items l.change-iterator) ≡ l.behind + length l.fn.changes.items;
  all : map numbered_of l.all.items ++ filter (λ (c : NumberedOf). nat_le l.from c.number) (numbered (l.number + 1) (map seen_in (into_iter_items l.change-iterator)))
      ≡ filter (λ (c : NumberedOf). nat_le l.from c.number) (numbered (l.behind + 1) (map seen_in l.fn.changes.items));
}

use Rattle.std.proofs.Common.{◌≡◌, [], drop, length}
use Rattle.toml.specs.View.{items_view}
use Rattle.policy_build.specs.Reading.{items_from}
use Rattle.policy_build.proofs.from_toml.items.Given as goal

-- the items so far, before those of the other values
abbrev pub invariant-loop-i : goal.invariant-loop-i
invariant-loop-i g l = record {
  count : length l.items.items ≡ l.i;
  read : items_from g.T.FromToml.read_of l.place [] (items_view l.values) ≡ items_from g.T.FromToml.read_of l.place l.items.items (items_view (drop l.i l.values));
}

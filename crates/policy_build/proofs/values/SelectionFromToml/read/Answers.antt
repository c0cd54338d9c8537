use Rattle.std.proofs.Common.{codes}
use Rattle.toml.specs.View.{view}
use Rattle.policy_build.proofs.ReadingLemmas.{unless_filled}
use Rattle.policy_build.proofs.values.SelectionFromToml.read.Goals as goal

pub of-requires : goal.of-requires
of-requires g c = unless_filled (codes "*") g.T.FromToml.read_of c.args.place (view c.args.value.now) c.in-Some.items.items (rw c.in-Some.is at c.in_ok-items.ensures)

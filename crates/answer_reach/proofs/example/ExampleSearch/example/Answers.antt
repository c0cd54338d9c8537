use Rattle.std.proofs.Common.{List, IfOk, IfSome, sym, subst}
use Rattle.zone_core.specs.Sets.{listing}
use Rattle.zone_core.specs.Delegations.{AreNamesOf}
use Rattle.zone_answers.specs.Answers.{Name}
use Rattle.answer_reach.specs.ReachTests.{named}
use Rattle.answer_reach.specs.Examples.{SearchOf, IsExampleOf}
use Rattle.answer_reach.proofs.example.ExampleSearch.example.Goals as goal

pub example_in-requires : goal.example_in-requires
example_in-requires c =
    let s = c.self.inside in
    subst (λ (names : List Name). AreNamesOf names (named s.index.now.origin s.rights.rules (listing s.index.now.records))) (sym c.deref.ensures.value) c.self.invariant

pub returns : goal.returns
returns c = subst (λ (of : SearchOf). IfOk c.example_in.result (λ found. IfSome found (IsExampleOf of c.args.row.now))) c.self.view_is c.example_in.ensures

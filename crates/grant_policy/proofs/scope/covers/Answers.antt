use Rattle.std.proofs.lemmas.Bool.Decides.{same_from_decides, Decides-at}
use Rattle.grant_policy.specs.declared.scope.Scope.TheVariants.{Below}
use Rattle.grant_policy.proofs.ScopeLemmas.{same_name-Decides, covers-Decides}
use Rattle.grant_policy.proofs.scope.covers.Goals as goal

pub returns-in-Name-clause-test : goal.returns-in-Name-clause-test
returns-in-Name-clause-test c = rw c.in-Name.is (Decides-at _ _ c.eq.ensures (same_name-Decides c.args.name.now c.args.at.now))

pub returns-in-Below-clause-value : goal.returns-in-Below-clause-value
returns-in-Below-clause-value c = rw c.in-Below.is (same_from_decides _ _ c.is_below.ensures (covers-Decides Below c.args.at.now c.args.name.now))

use Rattle.std.proofs.lemmas.Bool.Decides.{same_from_decides}
use Rattle.dns_names.proofs.NameLemmas.{is_within-Decides, within_from_key}
use Rattle.dns_names.proofs.name.Name.is_within.Goals as goal

pub returns-clause-test : goal.returns-clause-test
returns-clause-test c =
    within_from_key c.args.self.now c.args.top.now c.key.result.now c.key-2.result.now c.starts_with.result c.key.ensures.key c.key-2.ensures.key c.starts_with.ensures.value

pub returns-clause-value : goal.returns-clause-value
returns-clause-value c =
    same_from_decides _ _ (returns-clause-test c) (is_within-Decides c.args.self.now c.args.top.now)

use Rattle.std.proofs.lemmas.Result.{IfOk-weaker}
use Rattle.policy_build.specs.Selections.{SelectsSome}
use Rattle.policy_build.proofs.PrintingLemmas.{all_mapped}
use Rattle.policy_build.proofs.printing.policy_text.Goals as goal

pub returns : goal.returns
returns c = record { again = IfOk-weaker c.rules_text.result _ _ (λ text again are all. again (all_mapped SelectsSome (λ r. r.now) c.args.rules.now all) are) c.rules_text.ensures }

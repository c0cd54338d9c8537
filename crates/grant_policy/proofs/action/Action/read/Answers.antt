use Rattle.grant_policy.specs.Words.{action_text, all_actions}
use Rattle.dns_data.proofs.WordLemmas.{by_word}
use Rattle.grant_policy.proofs.WordLemmas.{action_own}
use Rattle.grant_policy.proofs.action.Action.read.Goals as goal

pub returns-clause-found : goal.returns-clause-found
returns-clause-found c =
    by_word action_text all_actions action_own c.args.word.now c.called.result c.called.ensures

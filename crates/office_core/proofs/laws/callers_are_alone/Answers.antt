use Rattle.office_core.proofs.IsolationLemmas.{callers_are_alone, blind_callers_are_alone, policies_keep_alone, isolated_callers_are_alone}
use Rattle.office_core.proofs.laws.callers_are_alone.Goals as goal

pub returns-clause-rights : goal.returns-clause-rights
returns-clause-rights c = callers_are_alone

pub returns-clause-visibility : goal.returns-clause-visibility
returns-clause-visibility c = blind_callers_are_alone

pub returns-clause-policy : goal.returns-clause-policy
returns-clause-policy c = policies_keep_alone

pub returns-clause-isolation : goal.returns-clause-isolation
returns-clause-isolation c = isolated_callers_are_alone

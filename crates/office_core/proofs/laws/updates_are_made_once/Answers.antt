use Rattle.office_core.proofs.HistoryLemmas as the
use Rattle.office_core.proofs.laws.updates_are_made_once.Goals as goal

pub returns-clause-kept : goal.returns-clause-kept
returns-clause-kept c = the.receipts_are_kept

pub returns-clause-once : goal.returns-clause-once
returns-clause-once c = the.updates_are_made_once

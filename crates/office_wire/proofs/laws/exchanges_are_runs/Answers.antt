use Rattle.office_wire.proofs.PromiseLemmas.{exchanges_run}
use Rattle.office_wire.proofs.laws.exchanges_are_runs.Goals as goal

pub returns : goal.returns
returns c = exchanges_run

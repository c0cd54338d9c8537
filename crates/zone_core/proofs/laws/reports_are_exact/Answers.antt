use Rattle.zone_core.proofs.ReportLemmas.{reports_are_exact}
use Rattle.zone_core.proofs.laws.reports_are_exact.Goals as goal

pub returns : goal.returns
returns c = reports_are_exact

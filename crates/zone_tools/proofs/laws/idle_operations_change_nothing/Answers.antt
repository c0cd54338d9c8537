use Rattle.zone_tools.proofs.IdleLemmas.{idle_operations_change_nothing, idle_operations_need}
use Rattle.zone_tools.proofs.laws.idle_operations_change_nothing.Goals as goal

pub returns : goal.returns
returns c = record { exact = idle_operations_change_nothing; part = idle_operations_need }

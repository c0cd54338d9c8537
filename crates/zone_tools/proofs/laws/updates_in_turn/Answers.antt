use Rattle.zone_tools.proofs.InTurnLemmas.{parts_make_the_records, parts_make_the_zone}
use Rattle.zone_tools.proofs.SoaInTurnLemmas.{parts_take_the_soa, parts_take_a_newer_soa}
use Rattle.zone_tools.proofs.TestedInTurnLemmas.{verdicts_stay, parts_are_met}
use Rattle.zone_tools.proofs.laws.updates_in_turn.Goals as goal

pub returns-clause-records : goal.returns-clause-records
returns-clause-records c = parts_make_the_records

pub returns-clause-zone : goal.returns-clause-zone
returns-clause-zone c = parts_make_the_zone

pub returns-clause-soa : goal.returns-clause-soa
returns-clause-soa c = parts_take_the_soa

pub returns-clause-newer : goal.returns-clause-newer
returns-clause-newer c = parts_take_a_newer_soa

pub returns-clause-stay : goal.returns-clause-stay
returns-clause-stay c = verdicts_stay

pub returns-clause-met : goal.returns-clause-met
returns-clause-met c = parts_are_met

use Rattle.cli_store.proofs.zones.ZonePutTableJobUnit.run.Goals as goal

pub returns-in-Kept : goal.returns-in-Kept
returns-in-Kept g c = (rw c.in-Kept.is c.put.ensures.turns, rw c.in-Kept.is c.put.ensures.answer)

pub returns-in-Replaced : goal.returns-in-Replaced
returns-in-Replaced g c = (rw c.in-Replaced.is c.put_in_place.ensures.turns, rw c.in-Replaced.is c.put_in_place.ensures.answer)

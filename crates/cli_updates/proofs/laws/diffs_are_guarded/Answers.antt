use Rattle.cli_updates.proofs.DiffLaws.{diffs_have_room, diffs_made_beside, diffs_tell, operations_guarded, operations_tell}
use Rattle.cli_updates.proofs.laws.diffs_are_guarded.Goals as goal

pub returns-clause-told : goal.returns-clause-told
returns-clause-told c = diffs_tell

pub returns-clause-acted : goal.returns-clause-acted
returns-clause-acted c = operations_tell

pub returns-clause-room : goal.returns-clause-room
returns-clause-room c = diffs_have_room

pub returns-clause-beside : goal.returns-clause-beside
returns-clause-beside c = diffs_made_beside

pub returns-clause-bare : goal.returns-clause-bare
returns-clause-bare c = operations_guarded

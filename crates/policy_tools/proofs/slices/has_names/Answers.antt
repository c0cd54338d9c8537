use Rattle.policy_tools.proofs.SliceLemmas.{room_exactly}
use Rattle.policy_tools.proofs.slices.has_names.Goals as goal

pub returns-in-Below : goal.returns-in-Below
returns-in-Below c = rw c.in-Below.is (room_exactly c.args.rule.now.at c.fits.result c.fits.ensures.read)

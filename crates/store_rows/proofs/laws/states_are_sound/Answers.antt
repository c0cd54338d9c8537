use Rattle.store_rows.proofs.StateLaws.{states_are_sound}
use Rattle.store_rows.proofs.laws.states_are_sound.Goals as goal

pub returns : goal.returns
returns c = states_are_sound

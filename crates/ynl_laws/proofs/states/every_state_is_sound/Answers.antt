use Rattle.ynl_laws.proofs.Soundness.Sound.{is_always_sound}
use Rattle.ynl_laws.proofs.states.every_state_is_sound.Goals as goal

pub returns : goal.returns
returns c = is_always_sound

use Rattle.channel_law.proofs.Sound.{services-stay-sound}
use Rattle.channel_law.proofs.services_stay_sound.Goals as goal

pub returns : goal.returns
returns c = services-stay-sound

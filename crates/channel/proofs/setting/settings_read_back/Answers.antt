use Rattle.channel.proofs.Octets.{settings-read-back}
use Rattle.channel.proofs.setting.settings_read_back.Goals as goal

pub returns : goal.returns
returns c = settings-read-back

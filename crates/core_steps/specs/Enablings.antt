-- What a kept end makes of services, as the code holds it. Assumes nothing.
use Rattle.std.specs.Prelude.{cond, List, map}
use Rattle.channel.specs.declared.setting.Setting.{Setting}
use Rattle.channel.specs.declared.record.Channel.{Channel}
use Rattle.rules.specs.Enabling.{Enabled, lasting}
use Rattle.rules.specs.Steps.{out_of_service, window_in, begun_channel, kept_channel}
use Rattle.core_steps.specs.declared.enabling.Enabling.{Enabling}

abbrev pub enabled_as : Enabling → Enabled window_in begun_channel out_of_service
enabled_as e = record { entries = e.channels; settings = e.settings; denied = e.denied }

abbrev pub lasting_kept : Setting → Channel → Channel
lasting_kept s c = cond s.enable (kept_channel c) out_of_service

abbrev pub all_lasting : List Setting → List Channel → List Channel
all_lasting ss cs = lasting window_in begun_channel out_of_service ss (map kept_channel cs)

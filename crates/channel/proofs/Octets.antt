-- The register octets of a channel, written and read back. Assumes nothing.
use Rattle.std.proofs.Common.{◌-◌, refl, arith}
use Rattle.std.proofs.lemmas.Bool.Decides.{nat_tests}
use Rattle.access.proofs.Fields.{reads-back}
use Rattle.channel.specs.Settings.{SettingsReadBack}

pub settings-read-back : SettingsReadBack
settings-read-back s status i v h =
    let start = reads-back 2 s.start i v h in
    let long = reads-back 2 s.length (i - 2) v h in
    record {
      same = λ ne. grind (arith, nat_tests);
      live = refl;
      other = λ j ne. grind (arith, nat_tests);
    }

use Rattle.std.proofs.Common.{refl}
use Rattle.bits.specs.Bits.{bit_at, bits_of}
use Rattle.worked.proofs.examples_hold.Goals as goal

-- every run by computation
pub returns : goal.returns
unfolding bit_at bits_of
returns c =
    record {
      positions-count = refl;
      counter-wraps = refl;
      zeros-filled = refl;
      ones-cleared = refl;
      bits-written = refl;
      bits_left = refl;
      buffered-two = refl;
      buffered-one = refl;
      mailbox-two = refl;
      mailbox-one = refl;
      area-fits = refl;
      area-ends = refl;
      areas-meet = refl;
      areas-touch = refl;
      reading-stays = refl;
      mail-fetched = refl;
      mail-stays = refl;
      kept-first = refl;
    }

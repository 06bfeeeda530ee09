use Rattle.std.proofs.Common.{◌-◌, ◌/◌, ◌%◌, ◌^◌, ap, ◌∙◌, arith}
use lib.Bits.{bit_and}
use Rattle.mapping.proofs.Landed.{two-more}
use Rattle.mapping.proofs.Masks.{near-bits, far-bits}
use Rattle.mapping.proofs.entity.Entity.push_bits.Goals as goal

pub returns : goal.returns
returns c =
    record {
      list =
          two-more c.args.self.now c.args.address c.args.bits c.landing-first.result c.turn-turn.result _ _ _ _ _ c.landing-first.ensures.place c.turn-turn.ensures
          (ap (λ n. bit_and c.args.bits (255 / 2 ^ (n % 8))) c.landing-first.ensures.place ∙ near-bits c.args.self.now c.args.address c.args.bits (omega arith) c.requires.started)
          (ap (λ n. bit_and c.args.bits (255 - 255 / 2 ^ (n % 8))) c.landing-first.ensures.place ∙ far-bits c.args.self.now c.args.address c.args.bits (omega arith) c.requires.started)
          c.push_access.ensures.list c.push_access-2.ensures.list;
      count = omega arith;
    }

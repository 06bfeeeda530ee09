use Rattle.std.proofs.Common.{arith, rules}
use Rattle.mapping.proofs.Masks.{range_none, range-some}
use Rattle.mapping.proofs.serving.bits_between.Goals as goal

pub returns-then-address-front : goal.returns-then-address-front
returns-then-address-front c = range_none c.args.first c.args.last c.args.address c.then-address-front.either

pub returns : goal.returns
returns c =
    range-some c.args.first c.args.last c.args.address c.if-address-front-2.low c.if-address-back.high (omega arith) (omega arith) (search rules) (search rules)

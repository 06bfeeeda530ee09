use Rattle.std.proofs.Common.{subst, refl, rules, arith}
use Rattle.mapping.proofs.Steps.{Reached, reached_none, reached_more, reached_all, reached-full, started}
use Rattle.mapping.proofs.accesses.found_among.Goals as goal

pub loop-free-init : goal.loop-free-init
loop-free-init c = rw c.new-found.ensures (reached_none c.args.entities.now c.args.direction c.args.address)

pub push_bits-requires-clause-started : goal.push_bits-requires-clause-started
push_bits-requires-clause-started c =
    started c.args.entities.now c.args.direction c.args.address c.loop-free.rest.now c.in-Some.index c.loop-free.free c.in_octet-covered.result c.bits_covered.result c.in_octet-covered.ensures c.bits_covered.ensures

pub loop-free-preserved : goal.loop-free-preserved
loop-free-preserved c =
    reached_more c.args.entities.now c.args.direction c.args.address c.loop-free.rest.now c.in-Some.index c.loop-free.free c.in_octet-covered.result c.bits_covered.result c.in_octet-covered.ensures c.bits_covered.ensures
    _ c.loop-free.found.items c.push_bits.new.found.items refl c.in-Some.ensures.lowest.0 c.in-Some.ensures.lowest.2 (omega arith) c.push_bits.ensures.list c.push_bits.ensures.count c.loop-free.invariant

pub returns-in-loop-free : goal.returns-in-loop-free
returns-in-loop-free c =
    reached_all c.args.entities.now c.args.direction c.args.address c.loop-free.rest.now c.loop-free.free c.loop-free.found.items c.lowest_covering.result c.lowest_covering.ensures.lowest (search rules) c.loop-free.invariant

pub returns-after-loop-free : goal.returns-after-loop-free
returns-after-loop-free c =
    reached-full c.args.entities.now c.args.direction c.args.address c.loop-free.rest.now c.loop-free.found.items
    (subst (λ m. Reached c.args.entities.now c.args.direction c.args.address c.loop-free.rest.now m c.loop-free.found.items) c.loop-free-test.false c.loop-free.invariant)

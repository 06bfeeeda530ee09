use Rattle.std.proofs.Common.{◌≡◌, take}
use Rattle.scripts.proofs.played.octets_of.Given as goal

-- the octets read so far, of a memory that reading does not change
abbrev pub invariant-loop-place : goal.invariant-loop-place
invariant-loop-place g l = record {
  so_far : l.octets.items ≡ take l.place (g.M.Memory.octets l.memory);
  same : g.M.Memory.octets l.memory ≡ g.M.Memory.octets l.initial.memory;
}

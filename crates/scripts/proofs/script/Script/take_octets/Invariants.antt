use Rattle.std.proofs.Common.{◌≡◌, drop}
use Rattle.scripts.specs.Text.{texts_of}
use Rattle.scripts.specs.Scripts.{with_calls, octet_calls, GoesOn}
use Rattle.scripts.proofs.script.Script.take_octets.Given as goal

-- what is left gives the script of the whole, and nothing is lost
abbrev pub invariant-loop-word : goal.invariant-loop-word
invariant-loop-word l = record {
  left : with_calls (octet_calls l.frame (texts_of (drop l.word-index l.words))) l.self ≡ with_calls (octet_calls l.frame (texts_of l.words)) l.initial.self;
  goes_on : GoesOn l.initial.self l.self;
}

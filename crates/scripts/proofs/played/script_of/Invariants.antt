use Rattle.std.proofs.Common.{◌≡◌, ◌+◌, drop}
use Rattle.scripts.specs.Text.{texts_of}
use Rattle.scripts.specs.Played.{with_lines, script_of}
use Rattle.scripts.proofs.played.script_of.Given as goal

-- the lines that are left give the script of the whole
abbrev pub invariant-loop-i : goal.invariant-loop-i
invariant-loop-i l =
    with_lines (texts_of (drop l.i l.line-items)) (l.i + 1) l.script ≡ script_of l.text

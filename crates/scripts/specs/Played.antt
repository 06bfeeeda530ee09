-- What playing the text of a script gives. Assumes nothing.
use Rattle.std.specs.Prelude.{◌≡◌, ℕ, ◌+◌, ◌*◌, List, [], ◌∷◌, length, min, replicate, unwrap_or, ◌==◌}
use Rattle.std.specs.List.{slice_split}
use Rattle.rules.specs.Steps.{station, runs, history}
use Rattle.rules.specs.Promise.{Promise}
use Rattle.station.specs.Scripts.{told}
use Rattle.scripts.specs.Scripts.{Held, nothing, own_number, with_line}
use Rattle.scripts.specs.declared.line.Kind.{Kind}
use Rattle.scripts.specs.declared.line.Kind.TheVariants.{Octets, Words, Joined}
use Rattle.scripts.specs.declared.played.Played.{Played}

-- the lines of a text: what stands between line feeds
abbrev pub lines_of : List ℕ → List (List ℕ)
lines_of text = slice_split (λ octet. octet == 10) text

-- what is held after these lines, of which the first has number n
abbrev pub with_lines : List (List ℕ) → (n : ℕ) → Held → Held
with_lines [] n h = h
with_lines (line ∷ lines) n h = with_lines lines (n + 1) (with_line line n h)

-- the script of a text
abbrev pub script_of : List ℕ → Held
script_of text = with_lines (lines_of text) 1 nothing

-- a memory of so many octets, cut at 61,440, all 0
abbrev pub zeros : ℕ → List ℕ
zeros n = replicate (min n 61440) 0

-- the memory that a script asks for, of 4,096 octets where it asks for none
abbrev pub memory_of : Kind → List ℕ
memory_of (Octets n) = zeros n
memory_of (Words n) = zeros (2 * n)
memory_of (Joined n w) = zeros (n + 2 * w)

abbrev pub memory_asked : Held → List ℕ
memory_asked h = memory_of (unwrap_or h.kind (Octets 4096))

-- Its calls are made in order on a new station over a memory with these octets: each with its answer stands in what was played, with the promise
-- about messages of all of them, and the octets are those of the memory afterwards.
pub record PerformedOn (memory : List ℕ) (before : Held) (after : Played) : Type 0 where
  pub answers : told after.entries.items ≡ history (station memory (own_number before)) before.calls
  pub items : after.items.items ≡ before.items
  pub octets_are : after.octets.items ≡ (runs (station memory (own_number before)) before.calls).octets
  pub promise : Promise (length memory) (own_number before) (told after.entries.items)

-- the same, over the memory that the script asks for
abbrev pub Performed : (before : Held) → (after : Played) → Type 0
Performed before after = PerformedOn (memory_asked before) before after

abbrev pub Plays : (text : List ℕ) → Played → Type 0
Plays text p = Performed (script_of text) p

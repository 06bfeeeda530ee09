-- What a script holds, and what each of its lines adds. Assumes nothing.
use Rattle.std.specs.Prelude.{◌≡◌, ℕ, Bool, ◌&&◌, ◌==◌, not, nat_eq, List, [], ◌∷◌, ◌++◌, length, take, drop, map, Option, Some, None, Result, Ok, Err, cond, codes, is_some, is_none, unwrap_or}
use Rattle.std.specs.List.{starts_with, list_all, filter_map}
use Rattle.std.specs.Str.{is_utf8}
use Rattle.rules.specs.declared.data.Call.{Call}
use Rattle.rules.specs.declared.data.Call.TheVariants.{Octet}
use Rattle.scripts.specs.Numerals.{octet_of}
use Rattle.scripts.specs.Text.{words_of}
use Rattle.scripts.specs.Lines.{line_said}
use Rattle.scripts.specs.declared.line.Kind.{Kind}
use Rattle.scripts.specs.declared.line.Line.{Line}
use Rattle.scripts.specs.declared.line.Line.TheVariants.{Memory, Station, Call as ACall, Octets}
use Rattle.scripts.specs.declared.script.Item.{Item}
use Rattle.scripts.specs.declared.script.Item.TheVariants.{Call as Told, Unreadable}

-- the set-up, the calls so far, and what has a line of output
pub record Held : Type 0 where
  pub kind : Option Kind
  pub number : Option ℕ
  pub calls : List Call
  pub items : List Item

-- a script of no lines
abbrev pub nothing : Held
nothing = record { kind = None; number = None; calls = []; items = [] }

-- the station's number
abbrev pub own_number : Held → ℕ
own_number h = unwrap_or h.number 1

-- further calls, each with a line of output
abbrev pub with_calls : List Call → Held → Held
with_calls cs h = record { kind = h.kind; number = h.number; calls = h.calls ++ cs; items = h.items ++ map (λ _. Told) cs }

-- line n cannot be read
abbrev pub refused : (n : ℕ) → Held → Held
refused n h = record { kind = h.kind; number = h.number; calls = h.calls; items = h.items ++ Unreadable n ∷ [] }

-- the memory, once and before the first call
abbrev pub with_memory : Kind → (n : ℕ) → Held → Held
with_memory kind n h =
    cond (is_none h.kind && length h.calls == 0) (record { kind = Some kind; number = h.number; calls = h.calls; items = h.items }) (refused n h)

-- the station's number, once and before the first call
abbrev pub with_number : ℕ → (n : ℕ) → Held → Held
with_number number n h =
    cond (is_none h.number && length h.calls == 0) (record { kind = h.kind; number = Some number; calls = h.calls; items = h.items }) (refused n h)

-- at least one octet, and nothing else
abbrev pub are_octets : List (List ℕ) → Bool
are_octets words = not (length words == 0) && list_all (λ word. is_some (octet_of word)) words

-- a call for each of the octets, of the station's own frame
abbrev pub octet_calls : (own : ℕ) → List (List ℕ) → List Call
octet_calls own words = map (λ octet. Octet own octet) (filter_map octet_of words)

abbrev pub with_octets : List (List ℕ) → (n : ℕ) → Held → Held
with_octets words n h = cond (are_octets words) (with_calls (octet_calls (own_number h) words) h) (refused n h)

-- what line n says, and the words after its first
abbrev pub with_said : Option Line → List (List ℕ) → (n : ℕ) → Held → Held
with_said None words n h = refused n h
with_said (Some (ACall call)) words n h = with_calls (call ∷ []) h
with_said (Some Octets) words n h = with_octets words n h
with_said (Some (Memory kind)) words n h = with_memory kind n h
with_said (Some (Station number)) words n h = with_number number n h

-- the words of line n; a blank line has none and adds nothing
abbrev pub with_words : List (List ℕ) → (n : ℕ) → Held → Held
with_words words n h = cond (length words == 0) h (with_said (line_said words (own_number h)) (drop 1 words) n h)

-- the octets of line n, which cannot be read if they are no text
abbrev pub with_text : List ℕ → (n : ℕ) → Held → Held
with_text line n h = cond (is_utf8 line) (with_words (words_of line) n h) (refused n h)

-- line n, by its octets; one that begins with # adds nothing
abbrev pub with_line : List ℕ → (n : ℕ) → Held → Held
with_line line n h = cond (starts_with nat_eq line (codes "#")) h (with_text line n h)

-- new has the set-up of old, and its calls and items are those of old and maybe more
pub record GoesOn (old new : Held) : Type 0 where
  pub kind : new.kind ≡ old.kind
  pub number : new.number ≡ old.number
  pub calls : take (length old.calls) new.calls ≡ old.calls
  pub items : take (length old.items) new.items ≡ old.items

-- what is held after a step: what the step makes of the old, or what goes on from the old if the heap has no room
abbrev pub Leaves : {E : Type 0} → Result (Unit {0}) E → (step : Held → Held) → (old new : Held) → Type 0
Leaves (Ok done) step old new = new ≡ step old
Leaves (Err error) step old new = GoesOn old new

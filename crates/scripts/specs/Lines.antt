-- What a line of a script says, by its words. Assumes nothing.
use Rattle.std.specs.Prelude.{ℕ, ◌==◌, ◌&&◌, length, slice_index_or, drop, List, [], Option, Some, None, cond, codes, bytes_eq, option_and_then, option_map}
use Rattle.frame.specs.declared.progress.Verdict.{Verdict}
use Rattle.frame.specs.declared.progress.Verdict.TheVariants.{Good, Bad}
use Rattle.rules.specs.declared.data.Call.{Call}
use Rattle.rules.specs.declared.data.Call.TheVariants.{Begin, Octet, End, Read, Write}
use Rattle.scripts.specs.Numerals.{number_of, below, octet_of}
use Rattle.scripts.specs.declared.line.Kind.{Kind}
use Rattle.scripts.specs.declared.line.Kind.TheVariants.{Octets, Words, Joined}
use Rattle.scripts.specs.declared.line.Line.{Line}
use Rattle.scripts.specs.declared.line.Line.TheVariants.{Memory, Station, Call as ACall, Octets as OctetCalls}

-- a number of 16 bits
abbrev pub short_of : List ℕ → Option ℕ
short_of word = below 65536 (number_of word)

-- the verdict at a frame's end: good or bad
abbrev pub verdict_named : List ℕ → Option Verdict
verdict_named word = cond (bytes_eq word (codes "good")) (Some Good) (cond (bytes_eq word (codes "bad")) (Some Bad) None)

-- the word at this place, counted from 0
abbrev pub word : List (List ℕ) → ℕ → List ℕ
word words i = slice_index_or words i []

-- the number of the frame that is handed in: `of S`, or the station's own
abbrev pub frame_named : List (List ℕ) → (own : ℕ) → Option ℕ
frame_named words own = cond (length words == 0) (Some own) (cond (length words == 2 && bytes_eq (word words 0) (codes "of")) (short_of (word words 1)) None)

-- the calls, each by the words after its name: octet HH, octet HH of S
abbrev pub octet_said : List (List ℕ) → (own : ℕ) → Option Call
octet_said words own = cond (length words == 0) None
    (option_and_then (λ frame. option_map (λ octet. Octet frame octet) (octet_of (word words 0))) (frame_named (drop 1 words) own))

-- end good, end bad, both also of S
abbrev pub end_said : List (List ℕ) → (own : ℕ) → Option Call
end_said words own = cond (length words == 0) None
    (option_and_then (λ frame. option_map (λ verdict. End frame verdict) (verdict_named (word words 0))) (frame_named (drop 1 words) own))

-- read A
abbrev pub read_said : List (List ℕ) → Option Call
read_said words = cond (length words == 1) (option_map (λ address. Read address) (short_of (word words 0))) None

-- write A HH
abbrev pub write_said : List (List ℕ) → Option Call
write_said words = cond (length words == 2)
    (option_and_then (λ address. option_map (λ octet. Write address octet) (octet_of (word words 1))) (short_of (word words 0))) None

-- a call, by its name and the words after it
abbrev pub call_named : (name : List ℕ) → List (List ℕ) → (own : ℕ) → Option Call
call_named name words own =
    cond (bytes_eq name (codes "begin")) (cond (length words == 0) (Some Begin) None)
    (cond (bytes_eq name (codes "octet")) (octet_said words own)
    (cond (bytes_eq name (codes "end")) (end_said words own)
    (cond (bytes_eq name (codes "read")) (read_said words)
    (cond (bytes_eq name (codes "write")) (write_said words) None))))

-- the memory: octets N, words W, joined N W
abbrev pub memory_named : List (List ℕ) → Option Kind
memory_named words =
    cond (length words == 2 && bytes_eq (word words 0) (codes "octets")) (option_map (λ n. Octets n) (number_of (word words 1)))
    (cond (length words == 2 && bytes_eq (word words 0) (codes "words")) (option_map (λ n. Words n) (number_of (word words 1)))
    (cond (length words == 3 && bytes_eq (word words 0) (codes "joined"))
    (option_and_then (λ n. option_map (λ w. Joined n w) (number_of (word words 2))) (number_of (word words 1))) None))

-- the station's number: one word
abbrev pub station_said : List (List ℕ) → Option ℕ
station_said words = cond (length words == 1) (short_of (word words 0)) None

-- what a line says, by its first word and the words after it; own is the station's number
abbrev pub said_of : (name : List ℕ) → List (List ℕ) → (own : ℕ) → Option Line
said_of name words own =
    cond (bytes_eq name (codes "octets")) (Some OctetCalls)
    (cond (bytes_eq name (codes "memory")) (option_map (λ kind. Memory kind) (memory_named words))
    (cond (bytes_eq name (codes "station")) (option_map (λ number. Station number) (station_said words))
    (option_map (λ call. ACall call) (call_named name words own))))

abbrev pub line_said : List (List ℕ) → (own : ℕ) → Option Line
line_said words own = cond (length words == 0) None (said_of (word words 0) (drop 1 words) own)

-- The account: what the calls and their answers tell of frames, registers, services, writings and readings. It is told from the memory's size,
-- the station's number and the history alone, by the rules for frames, registers, mapping and enablings; no buffer, no role and no octet of
-- the memory stands in it. Assumes nothing.
use Rattle.std.specs.Prelude.{ℕ, cond, List, [], ◌∷◌, ◌++◌, map, replicate, slice_index_or, slice_set}
use Rattle.std.specs.Option.{option_map}
use Rattle.channel_law.specs.Story.{Story, new_story, facts_told, stored_at, fetched_at, kept_story, dropped_story}
use Rattle.rules.specs.Data.{Option, Some, None, Result, Ok, Err, Fault, Local, Direction, Read, Write, Window, Setting, Facts, Access, Target, InRegister, InFree, InWindow, Registers, Running, Outcome, NotWanted, Done, Refused, Call, Begin, Octet, End, ReadAt, WriteAt, Answer, Runs, Forwards, Kept, Dropped, Got, Stored, Refuse}
use Rattle.rules.specs.Registers.{register_of, with_settings, with_alias, new_registers}
use Rattle.rules.specs.Questions.{asked}
use Rattle.rules.specs.Enabling.{Enabled, lasting, enabled}
use Rattle.rules.specs.Octets.{plain, accesses_of, begun_running, given_running, mine}

-- The registers, the alias and the running frame; of each channel the story of its service, if it is in service; the stories of the services
-- that ended. (A story has the writings, the readings and the messages of one service.)
pub record Account : Type 0 where
  pub registers : Registers
  pub alias : ℕ
  pub running : Option Running
  pub current : List (Option Story)
  pub past : List Story

abbrev pub nothing : Account
nothing = record { registers = new_registers; alias = 0; running = None; current = replicate 8 None; past = [] }

-- what is told of each channel
abbrev pub told : List (Option Story) → List (Option Facts)
told ts = map (option_map facts_told) ts

-- DONE ACCESSES. Where one reaches a window, it goes into that channel's story.
abbrev pub told_at : (ℕ → Story → Story) → List (Option Story) → Result Target Fault → List (Option Story)
told_at g ts (Err f) = ts
told_at g ts (Ok (InRegister p)) = ts
told_at g ts (Ok (InFree p)) = ts
told_at g ts (Ok (InWindow n k)) = slice_set ts n (option_map (g k) (slice_index_or ts n None))

abbrev pub told_all : (size : ℕ) → (ℕ → Story → Story) → List (Option Story) → List Access → List (Option Story)
told_all N g ts [] = ts
told_all N g ts (x ∷ xs) = told_all N g (told_at g ts (asked N (told ts) x)) xs

-- the reads of a call fetched this octet; its writes stored that one
abbrev pub reads_told : (size : ℕ) → List (Option Story) → List Access → Outcome ℕ Fault → List (Option Story)
reads_told N ts xs NotWanted = ts
reads_told N ts xs (Done v) = told_all N (λ k. fetched_at k v) ts xs
reads_told N ts xs (Refused f) = ts

abbrev pub writes_told : (size : ℕ) → List (Option Story) → List Access → (o : ℕ) → Outcome (Unit {0}) Fault → List (Option Story)
writes_told N ts xs o NotWanted = ts
writes_told N ts xs o (Done u) = told_all N (λ k. stored_at k o) ts xs
writes_told N ts xs o (Refused f) = ts

-- the accesses that a call makes in a direction, and the octet that it carries
abbrev pub frame_accesses : Registers → Option Running → Direction → List Access
frame_accesses r None d = []
frame_accesses r (Some f) d = accesses_of r f d

abbrev pub accesses : (number : ℕ) → Account → Call → Direction → List Access
accesses number a Begin d = []
accesses number a (Octet given o) d = frame_accesses a.registers (mine number given a.running) d
accesses number a (End given v) d = []
accesses number a (ReadAt p) Read = plain Local Read p ∷ []
accesses number a (ReadAt p) Write = []
accesses number a (WriteAt p o) Read = []
accesses number a (WriteAt p o) Write = plain Local Write p ∷ []

abbrev pub carried : Call → ℕ
carried Begin = 0
carried (Octet given o) = o
carried (End given v) = 0
carried (ReadAt p) = 0
carried (WriteAt p o) = o

-- what an answer says of the reads and of the writes of its call
abbrev pub read_outcome : Answer → Outcome ℕ Fault
read_outcome Runs = NotWanted
read_outcome (Forwards v r w) = r
read_outcome (Kept e) = NotWanted
read_outcome (Dropped f) = NotWanted
read_outcome (Got v) = Done v
read_outcome Stored = NotWanted
read_outcome (Refuse f) = Refused f

abbrev pub write_outcome : Answer → Outcome (Unit {0}) Fault
write_outcome Runs = NotWanted
write_outcome (Forwards v r w) = w
write_outcome (Kept e) = NotWanted
write_outcome (Dropped f) = NotWanted
write_outcome (Got v) = NotWanted
write_outcome Stored = Done tt
write_outcome (Refuse f) = Refused f

-- the stories once the reads of a call are told, and then its writes: each octet is read before it is written
abbrev pub after_reads : (size number : ℕ) → Account → Call → Answer → List (Option Story)
after_reads N number a c y = reads_told N a.current (accesses number a c Read) (read_outcome y)

abbrev pub after_accesses : (size number : ℕ) → Account → Call → Answer → List (Option Story)
after_accesses N number a c y = writes_told N (after_reads N number a c y) (accesses number a c Write) (carried c) (write_outcome y)

-- FRAMES AND REGISTERS
abbrev pub with_running : Account → Option Running → List (Option Story) → Account
with_running a f ts = record { registers = a.registers; alias = a.alias; running = f; current = ts; past = a.past }

abbrev pub given : Account → Call → Outcome ℕ Fault → Outcome (Unit {0}) Fault → Option Running
given a c r w = option_map (λ f. given_running a.registers a.alias f (carried c) r w) a.running

abbrev pub story_window : Option Story → Option Window
story_window t = option_map (λ t. t.window) t

abbrev pub begun_story : Window → Option Story
begun_story w = Some (new_story w)

-- the stories of the services that end: their enable bit is cleared
abbrev pub ended : List Setting → List (Option Story) → List Story
ended [] ts = []
ended (s ∷ ss) [] = []
ended (s ∷ ss) (None ∷ ts) = ended ss ts
ended (s ∷ ss) (Some t ∷ ts) = cond s.enable (ended ss ts) (t ∷ ended ss ts)

-- A kept end, in order: waiting transactions complete, waiting registers are set, services end, enablings are judged.
abbrev pub kept_stories : (size : ℕ) → Registers → List (Option Story) → Enabled story_window begun_story None
kept_stories N r ts = enabled story_window begun_story None N r.settings (lasting story_window begun_story None r.settings (map (option_map kept_story) ts))

abbrev pub kept_account : Account → Registers → Enabled story_window begun_story None → Account
kept_account a r e =
    record {
      registers = with_settings r e.settings;
      alias = a.alias;
      running = None;
      current = e.entries;
      past = ended r.settings (map (option_map kept_story) a.current) ++ a.past;
    }

abbrev pub waiting_of : Registers → Option Running → Registers
waiting_of r None = r
waiting_of r (Some f) = f.waiting

abbrev pub waiting_in : Account → Registers
waiting_in a = waiting_of a.registers a.running

-- A refused call tells nothing, but that an octet past the 1,500 is noted for the frame's end.
abbrev pub refused_octet : Account → Call → Option Running → Option Running
refused_octet a c None = a.running
refused_octet a c (Some f) = given a c NotWanted NotWanted

abbrev pub after_refusal : (number : ℕ) → Account → Call → Option Running
after_refusal number a Begin = a.running
after_refusal number a (Octet n o) = refused_octet a (Octet n o) (mine number n a.running)
after_refusal number a (End n v) = a.running
after_refusal number a (ReadAt p) = a.running
after_refusal number a (WriteAt p o) = a.running

-- a local write to the alias holds at once
abbrev pub alias_after : (alias : ℕ) → Call → ℕ
alias_after l Begin = l
alias_after l (Octet n o) = l
alias_after l (End n v) = l
alias_after l (ReadAt p) = l
alias_after l (WriteAt p o) = with_alias l (register_of p) o

-- ONE CALL with its answer, and a whole history
abbrev pub note : (size number : ℕ) → Account → Call → Answer → Account
note N number a c Runs = with_running a (Some (begun_running a.registers)) a.current
note N number a c (Forwards v r w) = with_running a (given a c r w) (after_accesses N number a c (Forwards v r w))
note N number a c (Kept e) = kept_account a (waiting_in a) (kept_stories N (waiting_in a) a.current)
note N number a c (Dropped f) = with_running a None (map (option_map dropped_story) a.current)
note N number a c (Got v) = with_running a a.running (after_accesses N number a c (Got v))
note N number a c Stored =
    record { registers = a.registers; alias = alias_after a.alias c; running = a.running; current = after_accesses N number a c Stored; past = a.past }
note N number a c (Refuse f) = with_running a (after_refusal number a c) a.current

abbrev pub tell : (size number : ℕ) → Account → List (Call × Answer) → Account
tell N number a [] = a
tell N number a (e ∷ es) = tell N number (note N number a e.0 e.1) es

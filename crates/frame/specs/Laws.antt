-- The laws of whole frames, for any octets with any outcomes of their accesses.
use Rattle.std.specs.Prelude.{◌≡◌, ℕ, ◌/◌, ◌<◌, ◌≤◌, min, Bool, true, false, List, ◌∷◌, ◌++◌, map, length, take, drop, Some, Err, ◌==◌, nat_lt}
use Rattle.frame.specs.declared.cursor.Cursor.{Cursor}
use Rattle.frame.specs.declared.cursor.Position.TheVariants as at
use Rattle.frame.specs.declared.progress.Verdict.{Verdict}
use Rattle.frame.specs.declared.progress.Reason.TheVariants.{TooLong, Unfinished}
use Rattle.frame.specs.Cursors.{begun, followed_by, wanted_at}
use Rattle.frame.specs.Frames.{begun_frame, ended_by, passes, kept}
use Rattle.frame.specs.Wire.{Item, octets, after, leaving, fed, forwarded, Telegram, Formed, AllFormed, head, wire, asks, passed, framed}

-- DATAGRAMS. ADP leaves as ADP + 1 modulo 65,536 or unchanged, by command; the counter leaves as it came plus what the accesses earned,
-- modulo 65,536; every other octet but the data leaves as it came.
abbrev pub DatagramLeaves : Type 0 → Type 0
DatagramLeaves F =
    (c : Cursor) (more : Bool) (t : Telegram F) → c.position ≡ at.Command → Formed t → leaving c (wire more t) ≡ octets (wire more (passed t))

-- after its last octet comes another datagram, or padding
abbrev pub DatagramIsFollowed : Type 0 → Type 0
DatagramIsFollowed F =
    (c : Cursor) (more : Bool) (t : Telegram F) → c.position ≡ at.Command → Formed t → (after c (wire more t)).position ≡ followed_by more

-- the data octet that follows j others asks for what data octet j shall
abbrev pub DataOctetAsks : Type 0 → Type 0
DataOctetAsks F =
    (c : Cursor) (more : Bool) (t : Telegram F) (before rest : List (Item F)) (x : Item F) → c.position ≡ at.Command → Formed t → t.items ≡ before ++ (x ∷ rest) →
    wanted_at (after c (head more t ++ before)).position (after c (head more t ++ before)).datagram
    ≡ Some (asks t (length before))

-- FRAMES. A passing frame and padding leave as they came.
abbrev pub PaddingLeaves : Type 0 → Type 0
PaddingLeaves F = (c : Cursor) (xs : List (Item F)) → ended_by c.position ≡ true → leaving c xs ≡ octets xs

abbrev pub PassingLeaves : Type 0 → Type 0
PassingLeaves F = (low high : Item F) (xs : List (Item F)) → (high.0 / 16 == 1) ≡ false → leaving begun (low ∷ high ∷ xs) ≡ octets (low ∷ high ∷ xs)

-- every datagram of a frame leaves as it does alone
abbrev pub FrameLeaves : Type 0 → Type 0
FrameLeaves F =
    (low high : Item F) (t : Telegram F) (ts : List (Telegram F)) (padding : List (Item F)) → (high.0 / 16 == 1) ≡ true → AllFormed (t ∷ ts) →
    leaving begun (framed low high t ts ++ padding) ≡ octets (framed low high (passed t) (map passed ts) ++ padding)

-- a frame ends with its last datagram, and not before, whatever the lengths
abbrev pub FrameEnds : Type 0 → Type 0
FrameEnds F =
    (low high : Item F) (t : Telegram F) (ts : List (Telegram F)) (padding : List (Item F)) → (high.0 / 16 == 1) ≡ true → AllFormed (t ∷ ts) →
    ended_by (after begun (framed low high t ts ++ padding)).position ≡ true

abbrev pub CutFrameDoesNotEnd : Type 0 → Type 0
CutFrameDoesNotEnd F =
    (low high : Item F) (t : Telegram F) (ts : List (Telegram F)) (k : ℕ) → (high.0 / 16 == 1) ≡ true → AllFormed (t ∷ ts) → k < length (framed low high t ts) →
    ended_by (after begun (take k (framed low high t ts))).position ≡ false

-- ONLY THE FIRST 1,500 OCTETS are taken, and the rest is noted and leaves as it came
abbrev pub FirstOctetsCount : Type 0 → Type 0
FirstOctetsCount F =
    (xs : List (Item F)) → fed begun_frame xs ≡ record { count = min (length xs) 1500; overrun = nat_lt 1500 (length xs); cursor = after begun (take 1500 xs) }

abbrev pub FirstOctetsLeave : Type 0 → Type 0
FirstOctetsLeave F = (xs : List (Item F)) → forwarded begun_frame xs ≡ leaving begun (take 1500 xs) ++ octets (drop 1500 xs)

-- so of at most 1,500 octets a well-formed frame and a passing one are kept if the check is good, and one cut short never is
abbrev pub FrameIsKept : Type 0 → Type 0
FrameIsKept F =
    (low high : Item F) (t : Telegram F) (ts : List (Telegram F)) (padding : List (Item F)) (v : Verdict) → (high.0 / 16 == 1) ≡ true → AllFormed (t ∷ ts) →
    length (framed low high t ts ++ padding) ≤ 1500 → kept (fed begun_frame (framed low high t ts ++ padding)) v ≡ passes v

abbrev pub PassingIsKept : Type 0 → Type 0
PassingIsKept F =
    (low high : Item F) (xs : List (Item F)) (v : Verdict) → (high.0 / 16 == 1) ≡ false → length (low ∷ high ∷ xs) ≤ 1500 → kept (fed begun_frame (low ∷ high ∷ xs)) v ≡ passes v

abbrev pub LongFrameIsDropped : Type 0 → Type 0
LongFrameIsDropped F = (xs : List (Item F)) (v : Verdict) → 1500 < length xs → kept (fed begun_frame xs) v ≡ Err TooLong

abbrev pub CutFrameIsDropped : Type 0 → Type 0
CutFrameIsDropped F =
    (low high : Item F) (t : Telegram F) (ts : List (Telegram F)) (k : ℕ) (v : Verdict) → (high.0 / 16 == 1) ≡ true → AllFormed (t ∷ ts) →
    k < length (framed low high t ts) → k ≤ 1500 → kept (fed begun_frame (take k (framed low high t ts))) v ≡ Err Unfinished

-- The worked examples: whole runs of calls from a new station, with the answer of every call. Assumes nothing.
use Rattle.std.specs.Prelude.{ℕ, ◌++◌}
use Rattle.worked.specs.Exchange.{Exchange, TakesPlace, Leaves, reads, read_refused, writes, status, ◌⇒◌, passes, stores, fetches, swaps, lays, aprd, apwr, aprw, lrd, lwr, kept, dropped, set_entity, accepted, denied, buffered, mailbox, buffered_from_master}

-- ADP 0xFFFF forwards 0x0000, not addressed; 0 forwards 1, addressed.
abbrev pub positions : Exchange
positions =
    writes 0x1000 0x5A
    ++ kept (aprd (0xFFFF ⇒ 0x0000) 0x1000 (passes (0 ⇒ 0)) (0 ⇒ 0))
    ++ kept (aprd (0x0000 ⇒ 0x0001) 0x1000 (fetches (0 ⇒ 0x5A)) (0 ⇒ 1))

-- Counter 0xFFFF after a fully done APRW is 0x0002.
abbrev pub counter : Exchange
counter = kept (aprw (0 ⇒ 1) 0x1000 (swaps (0x11 ⇒ 0x00) ++ swaps (0x22 ⇒ 0x00)) (0xFFFF ⇒ 0x0002)) ++ reads 0x1000 0x11 ++ reads 0x1001 0x22

-- Entity of type 3 (reads and writes): logical 0x2000, length 2, bits 6 to 1, physical 0x1100 bit 2; memory octet 0x2C.
abbrev pub mapped : Exchange
mapped = set_entity 0 0x2000 2 6 1 0x1100 2 3 ++ writes 0x1100 0x2C

-- LRD of 0x00 0x00 forwards 0xC0 0x02.
abbrev pub mapped_zeros : Exchange
mapped_zeros = mapped ++ kept (lrd 0x2000 (lays 0xC0 (0x00 ⇒ 0xC0) ++ lays 0x02 (0x00 ⇒ 0x02)) (0 ⇒ 1))

-- LRD of 0xFF 0xFF forwards 0xFF 0xFE.
abbrev pub mapped_ones : Exchange
mapped_ones = mapped ++ kept (lrd 0x2000 (lays 0xC0 (0xFF ⇒ 0xFF) ++ lays 0x02 (0xFF ⇒ 0xFE)) (0 ⇒ 1))

-- LWR of 0x40 0x01 leaves 0x14 in the memory.
abbrev pub mapped_write : Exchange
mapped_write = mapped ++ kept (lwr 0x2000 (stores 0x40 ++ stores 0x01) (0 ⇒ 1)) ++ reads 0x1100 0x14

-- L 2 is accepted; L 1 gives 20. (Buffered or mailbox.)
abbrev pub length_two : (control : ℕ) → Exchange
length_two c = accepted 0 0x1000 2 c

abbrev pub length_one : (control : ℕ) → Exchange
length_one c = denied 20 0 0x1000 1 c

-- N 1,024, buffered, L 4: start 0x13F4 is accepted, 0x13F5 gives 21.
abbrev pub last_fit : Exchange
last_fit = accepted 0 0x13F4 4 buffered

abbrev pub past_end : Exchange
past_end = denied 21 0 0x13F5 4 buffered

-- Area 0x1000–0x100B: another from 0x100C is accepted, from 0x100B gives 22.
abbrev pub neighbours : Exchange
neighbours = accepted 0 0x1000 4 buffered ++ accepted 1 0x100C 2 mailbox

abbrev pub overlapping : Exchange
overlapping = accepted 0 0x1000 4 buffered ++ denied 22 1 0x100B 2 mailbox

-- the local side stores a message of two octets
abbrev pub message : (first second : ℕ) → Exchange
message u v = writes 0x1000 u ++ writes 0x1001 v

-- Buffered, L 2, local stores: status 0x30, after two writings 0x01, 0x11; master opens a reading: 0x10; third writing: 0x01, the reading
-- still shows the second.
abbrev pub held_reading : Exchange
held_reading = aprd (0 ⇒ 1) 0x1000 (fetches (0 ⇒ 0xB1) ++ status 0 0x10 ++ message 0xC1 0xC2 ++ status 0 0x01 ++ fetches (0 ⇒ 0xB2)) (0 ⇒ 1)

abbrev pub buffers : Exchange
buffers =
    accepted 0 0x1000 2 buffered
    ++ status 0 0x30
    ++ message 0xA1 0xA2
    ++ status 0 0x01
    ++ message 0xB1 0xB2
    ++ status 0 0x11
    ++ kept held_reading

-- Mailbox: written 0x09, master's reading open 0x08, kept 0x02; dropped 0x08.
abbrev pub written : Exchange
written = accepted 0 0x1000 2 mailbox ++ status 0 0x00 ++ message 0xA1 0xA2 ++ status 0 0x09

abbrev pub mail_reading : Exchange
mail_reading = aprd (0 ⇒ 1) 0x1000 (fetches (0 ⇒ 0xA1) ++ status 0 0x08 ++ fetches (0 ⇒ 0xA2) ++ status 0 0x08) (0 ⇒ 1)

abbrev pub mail_fetched : Exchange
mail_fetched = written ++ kept mail_reading ++ status 0 0x02

abbrev pub mail_stays : Exchange
mail_stays = written ++ dropped mail_reading ++ status 0 0x08

-- Buffered at 0x1000, L 4, master stores 0x11 0x22 0x33 0x44 by APWR: a local read of 0x1000 gives 11 until the frame is kept; then 0x11, and
-- 0x1002 next gives 8.
abbrev pub nothing_yet : Exchange
nothing_yet = read_refused 0x1000 11 0

abbrev pub storing : Exchange
storing = stores 0x11 ++ nothing_yet ++ stores 0x22 ++ nothing_yet ++ stores 0x33 ++ nothing_yet ++ stores 0x44 ++ nothing_yet

abbrev pub master_stores : Exchange
master_stores =
    accepted 0 0x1000 4 buffered_from_master
    ++ nothing_yet
    ++ kept (apwr (0 ⇒ 1) 0x1000 storing (0 ⇒ 1) ++ nothing_yet)
    ++ reads 0x1000 0x11
    ++ read_refused 0x1002 8 0

-- ALL of them, of a new station each
pub record WorkedExamples : Type 0 where
  pub positions-count : TakesPlace positions
  pub counter-wraps : TakesPlace counter
  pub zeros-filled : TakesPlace mapped_zeros
  pub ones-cleared : TakesPlace mapped_ones
  pub bits-written : TakesPlace mapped_write
  pub bits_left : Leaves mapped_write 0x1100 0x14
  pub buffered-two : TakesPlace (length_two buffered)
  pub buffered-one : TakesPlace (length_one buffered)
  pub mailbox-two : TakesPlace (length_two mailbox)
  pub mailbox-one : TakesPlace (length_one mailbox)
  pub area-fits : TakesPlace last_fit
  pub area-ends : TakesPlace past_end
  pub areas-meet : TakesPlace neighbours
  pub areas-touch : TakesPlace overlapping
  pub reading-stays : TakesPlace buffers
  pub mail-fetched : TakesPlace mail_fetched
  pub mail-stays : TakesPlace mail_stays
  pub kept-first : TakesPlace master_stores

-- The number, the address and the channel of a refusal. Assumes nothing.
use Rattle.std.specs.Prelude.{ℕ, ◌+◌, min, unwrap_or}
use Rattle.memory.specs.Octets.{place_of}
use Rattle.memory.specs.Octets as memory
use Rattle.channel.specs.Facts.{refusal_number}
use Rattle.channel.specs.Settings.{denial_number}
use Rattle.frame.specs.Frames as frame
use Rattle.rules.specs.declared.fault.Reason.{Reason}
use Rattle.rules.specs.declared.fault.Reason.TheVariants.{NoRegister, NotWritable, InService, Channel, NotMappable, SplitOctet, FrameRuns, NoSuchFrame, Frame, Enabling}
use Rattle.rules.specs.declared.fault.Fault.{Fault}
use Rattle.rules.specs.declared.fault.Fault.TheVariants.{Memory, Station}

abbrev pub reason_number : Reason → ℕ
reason_number NoRegister = 1
reason_number NotWritable = 2
reason_number InService = 3
reason_number (Channel r) = refusal_number r
reason_number NotMappable = 12
reason_number SplitOctet = 13
reason_number FrameRuns = 14
reason_number NoSuchFrame = 15
reason_number (Frame r) = frame.reason_number r
reason_number (Enabling d) = denial_number d

abbrev pub number_of : Fault → ℕ
number_of (Memory f) = memory.number_of f
number_of (Station r a n) = reason_number r

-- address 0x1000 is place 0
abbrev pub address_of : Fault → ℕ
address_of (Memory f) = min (place_of f + 0x1000) (0xFFFFFFFF)
address_of (Station r a n) = a

-- 255: it speaks of no channel
abbrev pub channel_of : Fault → ℕ
channel_of (Memory f) = 255
channel_of (Station r a n) = unwrap_or n 255

-- what a refusal tells: its number, the physical address and the channel
pub record Notice : Type 0 where
  pub number : ℕ
  pub address : ℕ
  pub channel : ℕ

abbrev pub notice : Fault → Notice
notice f = record { number = number_of f; address = address_of f; channel = channel_of f }

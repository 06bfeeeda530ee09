-- The register octets of a channel, and the window that they ask for. Assumes nothing.
use Rattle.std.specs.Prelude.{◌≡◌, ℕ, ◌-◌, ◌/◌, ◌%◌, ◌<◌, cond, ◌≢◌, Some, None, Option, ◌==◌, nat_lt}
use Rattle.access.specs.Fields.{bit, octet_at, with_octet}
use Rattle.access.specs.declared.Side.{Side}
use Rattle.access.specs.declared.Side.TheVariants.{Master, Local}
use Rattle.channel.specs.declared.setting.Kind.{Kind}
use Rattle.channel.specs.declared.setting.Kind.TheVariants.{Buffered, Mailbox}
use Rattle.channel.specs.declared.setting.Setting.{Setting}
use Rattle.channel.specs.declared.setting.Window.{Window}
use Rattle.channel.specs.declared.setting.Denial.{Denial}
use Rattle.channel.specs.declared.setting.Denial.TheVariants.{Control, Length, Memory, Overlap}

-- Octets 0–1 start, 2–3 length, 4 control, 5 status, 6 enable, 7 is 0.
abbrev pub octet_of : Setting → (status index : ℕ) → ℕ
octet_of s status i =
    cond (nat_lt i 2) (octet_at 2 s.start i)
    (cond (nat_lt i 4) (octet_at 2 s.length (i - 2))
    (cond (i == 4) s.control
    (cond (i == 5) status
    (cond (i == 6) (bit s.enable) 0))))

-- the settings once an octet is written
abbrev pub with_octet_at : Setting → (index octet : ℕ) → Setting
with_octet_at s i v =
    cond (nat_lt i 2) (record { start = with_octet 2 s.start i v; length = s.length; control = s.control; enable = s.enable })
    (cond (nat_lt i 4) (record { start = s.start; length = with_octet 2 s.length (i - 2) v; control = s.control; enable = s.enable })
    (cond (i == 4) (record { start = s.start; length = s.length; control = v % 128; enable = s.enable })
    (cond (i == 6) (record { start = s.start; length = s.length; control = s.control; enable = (v % 2 == 1) }) s)))

-- THE LAW of the register octets: a written one reads back as the bits that are kept of it, octet 5 as the status, every other one as before.
abbrev pub kept_bits : (index octet : ℕ) → ℕ
kept_bits i v = cond (nat_lt i 4) v (cond (i == 4) (v % 128) (cond (i == 6) (v % 2) 0))

pub record ReadsBack (s : Setting) (status i v : ℕ) : Type 0 where
  pub same : i ≢ 5 → octet_of (with_octet_at s i v) status i ≡ kept_bits i v
  pub live : octet_of s status 5 ≡ status
  pub other : (j : ℕ) → j ≢ i → octet_of (with_octet_at s i v) status j ≡ octet_of s status j

abbrev pub SettingsReadBack : Type 0
SettingsReadBack = (s : Setting) (status i v : ℕ) → v < 256 → ReadsBack s status i v

-- control bits 1–0: 0 buffered, 2 mailbox
abbrev pub kind_of : (control : ℕ) → Option Kind
kind_of c = cond (c % 4 == 0) (Some Buffered) (cond (c % 4 == 2) (Some Mailbox) None)

-- control bits 3–2: 0 the master fetches, 1 it stores
abbrev pub stores_of : (control : ℕ) → Option Side
stores_of c = cond (c / 4 % 4 == 0) (Some Local) (cond (c / 4 % 4 == 1) (Some Master) None)

abbrev window_from : Setting → Option Kind → Option Side → Option Window
window_from s None p = None
window_from s (Some k) None = None
window_from s (Some k) (Some p) = Some (record { start = s.start; length = s.length; kind = k; stores = p })

abbrev pub window_of : Setting → Option Window
window_of s = window_from s (kind_of s.control) (stores_of s.control)

abbrev pub denial_number : Denial → ℕ
denial_number Control = 19
denial_number Length = 20
denial_number Memory = 21
denial_number Overlap = 22

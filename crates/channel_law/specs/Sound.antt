-- A sound service, which every public transition keeps so. Assumes nothing.
use Rattle.std.specs.Prelude.{ℕ, ◌<◌, ◌≢◌}
use Rattle.channel.specs.declared.setting.Window.{Window}
use Rattle.channel.specs.declared.service.Roles.{Roles}
use Rattle.channel.specs.declared.service.Service.{Service}
use Rattle.channel.specs.Services.{taken_by, number_of, begun, after_store, after_fetch, after_kept, after_dropped}

-- The roles are three different buffers, and an open transaction has taken at most L − 1 octets.
pub record Apart (r : Roles) : Type 0 where
  pub store-ready : number_of r.store ≢ number_of r.ready
  pub store-fetch : number_of r.store ≢ number_of r.fetch
  pub ready-fetch : number_of r.ready ≢ number_of r.fetch

pub record Sound (s : Service) : Type 0 where
  pub roles : Apart s.roles
  pub writing : taken_by s.writing < s.window.length
  pub reading : taken_by s.reading < s.window.length

-- THE LAW: a service begins sound and stays so, whatever is done, at whatever offset.
pub record ServicesStaySound : Type 0 where
  pub begins : (w : Window) → 0 < w.length → Sound (begun w)
  pub stores : (s : Service) (k : ℕ) → Sound s → Sound (after_store s k)
  pub fetches : (s : Service) (k : ℕ) → Sound s → Sound (after_fetch s k)
  pub keeps : (s : Service) → Sound s → Sound (after_kept s)
  pub drops : (s : Service) → Sound s → Sound (after_dropped s)

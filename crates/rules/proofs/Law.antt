-- The promise about messages: every run keeps it. Assumes nothing.
use Rattle.std.proofs.Common.{ℕ, List, [], ◌∷◌, length}
use Rattle.channel_law.specs.Law as law
use Rattle.rules.specs.Data.{Call}
use Rattle.rules.specs.Steps.{Station, station, step, history}
use Rattle.rules.specs.Account.{Account, nothing, note, tell}
use Rattle.rules.specs.Promise.{Every, WholeIfAny, EachAnswered, MessagesAreWhole}
use Rattle.rules.proofs.Held.{Held, first, stories-whole}
use Rattle.rules.proofs.Calls.{call-goes}

each : (N number : ℕ) (s : Station) (a : Account) → Held N number s a → (cs : List Call) → EachAnswered N number a (history s cs)
each N number s a h [] = tt
each N number s a h (c ∷ cs) =
    let g = call-goes N number s a h c in (g.answered, each N number (step s c).0 (note N number a c (step s c).1) g.held cs)

wholes : (N number : ℕ) (s : Station) (a : Account) → Held N number s a → (cs : List Call) → Every WholeIfAny (tell N number a (history s cs)).current × Every law.Whole (tell N number a (history s cs)).past
wholes N number s a h [] = (stories-whole s.octets s.core.channels a.current h.channels, h.past)
wholes N number s a h (c ∷ cs) = wholes N number (step s c).0 (note N number a c (step s c).1) (call-goes N number s a h c).held cs

pub messages-are-whole : MessagesAreWhole
messages-are-whole m number cs small =
    let h = first m number small in
    let w = wholes (length m) number (station m number) nothing h cs in
    record { current = w.0; past = w.1; refusals = each (length m) number (station m number) nothing h cs }

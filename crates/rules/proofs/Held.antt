-- The invariant between a station and the account of its history. Assumes nothing.
use Rattle.std.proofs.Common.{◌≡◌, ℕ, zero, suc, ◌≤◌, ◌≢◌, List, [], ◌∷◌, length, get_or, replicate, sym, refl, ap, ◌∙◌, subst}
use Rattle.std.proofs.Math.ListN.{get_or-map}
use Rattle.std.proofs.lemmas.List.{length-map, ext_get_or}
use Rattle.std.specs.Option.{option_map}
use Rattle.channel.specs.Services.{facts_of}
use Rattle.channel_law.specs.Story.{Story, facts_told}
use Rattle.channel_law.specs.Law as law
use Rattle.channel_law.specs.Enabling.{Disjoint}
use Rattle.channel_law.proofs.Held as channel
use Rattle.channel_law.proofs.Keeps.{facts-agree}
use Rattle.channel_law.proofs.Whole as whole
use Rattle.rules.specs.Data.{Option, Some, None, Window, Service, Channel, Facts}
use Rattle.rules.specs.Steps.{Station, station, out_of_service, service_at, known}
use Rattle.rules.specs.Account.{Account, nothing, told, story_window}
use Rattle.rules.specs.Promise.{Every, WholeIfAny}

-- ONE CHANNEL: both are out of service, or its invariant holds
abbrev pub HeldIf : List ℕ → Option Service → Option Story → Type 0
HeldIf m None None = Unit {0}
HeldIf m None (Some t) = ⊥
HeldIf m (Some s) None = ⊥
HeldIf m (Some s) (Some t) = channel.Held m s t

abbrev pub story_at : List (Option Story) → ℕ → Option Story
story_at ts n = get_or ts n None

abbrev pub HeldIn : List ℕ → Channel → Option Story → Type 0
HeldIn m c t = HeldIf m c.service t

-- no two areas in service have an address in common
abbrev pub ApartIf : Option Window → Option Window → Type 0
ApartIf None v = Unit {0}
ApartIf (Some w) None = Unit {0}
ApartIf (Some w) (Some v) = Disjoint w v

abbrev pub window_at : List (Option Story) → ℕ → Option Window
window_at ts n = story_window (story_at ts n)

-- THE CHANNELS, of a memory of these octets
pub record Channels (m : List ℕ) (cs : List Channel) (ts : List (Option Story)) : Type 0 where
  pub long : length cs ≡ length ts
  pub held : (n : ℕ) → HeldIn m (get_or cs n out_of_service) (story_at ts n)
  pub apart : (i j : ℕ) → i ≢ j → ApartIf (window_at ts i) (window_at ts j)

-- THE STATION. What the account tells of registers, alias and running frame is what the core has.
pub record Held (N number : ℕ) (s : Station) (a : Account) : Type 0 where
  pub small : N ≤ 61440
  pub size : length s.octets ≡ N
  pub same_number : s.core.number ≡ number
  pub registers : s.core.registers ≡ a.registers
  pub alias : s.core.alias ≡ a.alias
  pub running : s.core.running ≡ a.running
  pub channels : Channels s.octets s.core.channels a.current
  pub past : Every law.Whole a.past

-- a new station
replicate-at : {X : Type 0} (k n : ℕ) (x : X) → get_or (replicate k x) n x ≡ x
replicate-at zero n x = refl
replicate-at (suc k) zero x = refl
replicate-at (suc k) (suc n) x = replicate-at k n x

pub first : (m : List ℕ) (number : ℕ) → length m ≤ 61440 → Held (length m) number (station m number) nothing
first m number small =
    record {
      small = small;
      size = refl;
      same_number = refl;
      registers = refl;
      alias = refl;
      running = refl;
      past = tt;
      channels = record {
        long = refl;
        held = λ n. subst (λ c. HeldIn m c (story_at (replicate 8 None) n)) (sym (replicate-at 8 n out_of_service)) (subst (HeldIf m None) (sym (replicate-at 8 n None)) tt);
        apart = λ i j ne. subst (λ t. ApartIf (story_window t) (window_at (replicate 8 None) j)) (sym (replicate-at 8 i None)) tt;
      };
    }

-- WHAT IT GIVES. The questions get the same facts from the core and from the account.
facts-if : (m : List ℕ) (o : Option Service) (t : Option Story) → HeldIf m o t → option_map facts_of o ≡ option_map facts_told t
facts-if m None None h = refl
facts-if m None (Some t) h = absurd h
facts-if m (Some s) None h = absurd h
facts-if m (Some s) (Some t) h = ap Some (facts-agree m s t h)

abbrev facts_in : Channel → Option Facts
facts_in c = option_map facts_of c.service

pub known-told : (m : List ℕ) (cs : List Channel) (ts : List (Option Story)) → Channels m cs ts → known cs ≡ told ts
known-told m cs ts h =
    ext_get_or None (known cs) (told ts) (length-map cs facts_in ∙ (h.long ∙ sym (length-map ts (option_map facts_told))))
    (λ n within. get_or-map facts_in cs n out_of_service ∙ (facts-if m (service_at cs n) (story_at ts n) (h.held n) ∙ sym (get_or-map (option_map facts_told) ts n None)))

-- every story is whole
whole-if : (m : List ℕ) (o : Option Service) (t : Option Story) → HeldIf m o t → WholeIfAny t
whole-if m None None h = tt
whole-if m None (Some t) h = absurd h
whole-if m (Some s) None h = absurd h
whole-if m (Some s) (Some t) h = whole.whole m s t h

all-at : {X : Type 0} (P : X → Type 0) (d : X) (xs : List X) → ((n : ℕ) → P (get_or xs n d)) → Every P xs
all-at P d [] h = tt
all-at P d (x ∷ xs) h = (h 0, all-at P d xs (λ n. h (suc n)))

pub stories-whole : (m : List ℕ) (cs : List Channel) (ts : List (Option Story)) → Channels m cs ts → Every WholeIfAny ts
stories-whole m cs ts h = all-at WholeIfAny None ts (λ n. whole-if m (service_at cs n) (story_at ts n) (h.held n))

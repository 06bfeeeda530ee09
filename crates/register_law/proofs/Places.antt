-- Where the registers stand, and what a write at one address leaves at the others. Assumes nothing.
use Rattle.std.proofs.Common.{◌≡◌, ℕ, ◌+◌, ◌-◌, ◌*◌, ◌/◌, ◌%◌, ◌<◌, ◌≤◌, ◌≢◌, Bool, true, false, cond, ◌&&◌, leb, ltb, ◌⊎◌, List, length, get_or, set, sym, refl, ap, ◌∙◌, inl, inr, arith}
use Rattle.std.proofs.lemmas.Bool.{and_parts, ltb-true, leb-true, false≢true, eqb-false, cases_eq}
use Rattle.std.proofs.lemmas.List.{get_or-set_same, get_or-set_other}
use Rattle.access.proofs.Fields.{fields-read-back}
use Rattle.mapping.proofs.Registers.{entities-read-back}
use Rattle.mapping.specs.Registers.{no_entity, entity_octet, with_entity_octet}
use Rattle.channel.proofs.Octets.{settings-read-back}
use Rattle.channel.specs.Settings.{octet_of, with_octet_at}
use Rattle.access.specs.declared.Side.TheVariants.{Master, Local}
use Rattle.rules.specs.declared.data.Registers.{Registers}
use Rattle.rules.specs.declared.data.Register.{Register}
use Rattle.rules.specs.declared.data.Register.TheVariants.{Unlisted, Fixed, Address, Alias, OfEntity, OfChannel}
use Rattle.rules.specs.Registers.{register_of, may_write, no_setting, octet_of_register, with_register, with_alias}
use Rattle.register_law.specs.Map.{kept_of, is_status, Eight, RegistersReadBack}

-- where a register octet stands
abbrev Stands : ℕ → Register → Type 0
Stands a Unlisted = Unit {0}
Stands a (Fixed i) = Unit {0}
Stands a (Address i) = (a ≡ 0x0010 + i) × (i < 2)
Stands a (Alias i) = (a ≡ 0x0012 + i) × (i < 2)
Stands a (OfEntity n i) = (a ≡ 0x0600 + (16 * n + i)) × (n < 8) × (i < 16)
Stands a (OfChannel n i) = (a ≡ 0x0800 + (8 * n + i)) × (n < 8) × (i < 8)

within : (low high a : ℕ) → (leb low a && ltb a high) ≡ true → (low ≤ a) × (a < high)
within low high a t = let p = and_parts (leb low a) (ltb a high) t in (leb-true low a p.0, ltb-true a high p.1)

stands-address : (a : ℕ) → (leb 0x0010 a && ltb a 0x0012) ≡ true → Stands a (Address (a - 0x0010))
stands-address a t = let w = within 0x0010 0x0012 a t in let l = w.0 in let h = w.1 in (omega arith, omega arith)

stands-alias : (a : ℕ) → (leb 0x0012 a && ltb a 0x0014) ≡ true → Stands a (Alias (a - 0x0012))
stands-alias a t = let w = within 0x0012 0x0014 a t in let l = w.0 in let h = w.1 in (omega arith, omega arith)

stands-entity : (a : ℕ) → (leb 0x0600 a && ltb a 0x0680) ≡ true → Stands a (OfEntity ((a - 0x0600) / 16) ((a - 0x0600) % 16))
stands-entity a t = let w = within 0x0600 0x0680 a t in let l = w.0 in let h = w.1 in (omega arith, omega arith, omega arith)

stands-channel : (a : ℕ) → (leb 0x0800 a && ltb a 0x0840) ≡ true → Stands a (OfChannel ((a - 0x0800) / 8) ((a - 0x0800) % 8))
stands-channel a t = let w = within 0x0800 0x0840 a t in let l = w.0 in let h = w.1 in (omega arith, omega arith, omega arith)

-- of a choice, if both sides stand
chosen : (a : ℕ) (b : Bool) (p q : Register) → (b ≡ true → Stands a p) → Stands a q → Stands a (cond b p q)
chosen a true p q here beside = here refl
chosen a false p q here beside = beside

stands : (a : ℕ) → Stands a (register_of a)
stands a =
    chosen a (ltb a 0x000A) (Fixed a) _ (λ t. tt)
    (chosen a (leb 0x0010 a && ltb a 0x0012) (Address (a - 0x0010)) _ (stands-address a)
    (chosen a (leb 0x0012 a && ltb a 0x0014) (Alias (a - 0x0012)) _ (stands-alias a)
    (chosen a (leb 0x0600 a && ltb a 0x0680) (OfEntity ((a - 0x0600) / 16) ((a - 0x0600) % 16)) _ (stands-entity a)
    (chosen a (leb 0x0800 a && ltb a 0x0840) (OfChannel ((a - 0x0800) / 8) ((a - 0x0800) % 8)) Unlisted (stands-channel a) tt))))

-- an octet of one entry of a list, after an octet of another entry, or another octet of the same, is written
module _ {E : Type 0} (octet : E → ℕ → ℕ) (write : E → ℕ → E) (z : E) (es : List E) (n i m j : ℕ) where
  entry-other : n < length es → ((e : E) → j ≢ i → octet (write e i) j ≡ octet e j) → (m ≡ n → j ≢ i) → octet (get_or (set es n (write (get_or es n z) i)) m z) j ≡ octet (get_or es m z) j
  entry-other h keeps apart = go (cases_eq m n)
    where
      x : E
      x = write (get_or es n z) i

      go : (m ≡ n) ⊎ (m ≡ n → ⊥) → octet (get_or (set es n x) m z) j ≡ octet (get_or es m z) j
      go (inl e) =
          ap (λ k. octet (get_or (set es n x) k z) j) e ∙ (ap (λ y. octet y j) (get_or-set_same es n x z h)
          ∙ (keeps (get_or es n z) (apart e) ∙ ap (λ k. octet (get_or es k z) j) (sym e)))
      go (inr ne) = ap (λ y. octet y j) (get_or-set_other es n m x z ne)

module _ (units : ℕ) (status : ℕ → ℕ) (r : Registers) (alias v : ℕ) (eight : Eight r) (small : v < 256) where
  -- the master's write, at another register octet
  other-of : (a b : ℕ) (p q : Register) → Stands a p → Stands b q → b ≢ a → octet_of_register units (with_register r p v) alias status q ≡ octet_of_register units r alias status q
  other-of a b Unlisted q s t ne = refl
  other-of a b (Fixed i) q s t ne = refl
  other-of a b (Alias i) q s t ne = refl
  other-of a b (Address i) Unlisted s t ne = refl
  other-of a b (Address i) (Fixed j) s t ne = refl
  other-of a b (Address i) (Address j) s t ne = (fields-read-back 2 r.address i v small).other j (λ e. ne (omega arith))
  other-of a b (Address i) (Alias j) s t ne = refl
  other-of a b (Address i) (OfEntity m j) s t ne = refl
  other-of a b (Address i) (OfChannel m j) s t ne = refl
  other-of a b (OfEntity n i) Unlisted s t ne = refl
  other-of a b (OfEntity n i) (Fixed j) s t ne = refl
  other-of a b (OfEntity n i) (Address j) s t ne = refl
  other-of a b (OfEntity n i) (Alias j) s t ne = refl
  other-of a b (OfEntity n i) (OfEntity m j) s t ne =
      entry-other entity_octet (λ e k. with_entity_octet e k v) no_entity r.entities n i m j (omega (arith, eight.entities))
      (λ e. (entities-read-back e i v small).other j) (λ e f. ne (omega arith))
  other-of a b (OfEntity n i) (OfChannel m j) s t ne = refl
  other-of a b (OfChannel n i) Unlisted s t ne = refl
  other-of a b (OfChannel n i) (Fixed j) s t ne = refl
  other-of a b (OfChannel n i) (Address j) s t ne = refl
  other-of a b (OfChannel n i) (Alias j) s t ne = refl
  other-of a b (OfChannel n i) (OfEntity m j) s t ne = refl
  other-of a b (OfChannel n i) (OfChannel m j) s t ne =
      entry-other (λ e k. octet_of e (status m) k) (λ e k. with_octet_at e k v) no_setting r.settings n i m j (omega (arith, eight.settings))
      (λ e. (settings-read-back e (status m) i v small).other j) (λ e f. ne (omega arith))

  -- and at that octet itself
  same-of : (a : ℕ) (p : Register) → Stands a p → may_write Master p ≡ true → is_status p ≡ false → octet_of_register units (with_register r p v) alias status p ≡ kept_of p v
  same-of a Unlisted s w l = absurd (false≢true w)
  same-of a (Fixed i) s w l = absurd (false≢true w)
  same-of a (Address i) s w l = (fields-read-back 2 r.address i v small).same s.1
  same-of a (Alias i) s w l = absurd (false≢true w)
  same-of a (OfEntity n i) s w l =
      ap (λ e. entity_octet e i) (get_or-set_same r.entities n _ no_entity (omega (arith, eight.entities))) ∙ (entities-read-back (get_or r.entities n no_entity) i v small).same
  same-of a (OfChannel n i) s w l =
      ap (λ e. octet_of e (status n) i) (get_or-set_same r.settings n _ no_setting (omega (arith, eight.settings)))
      ∙ (settings-read-back (get_or r.settings n no_setting) (status n) i v small).same (eqb-false i 5 l)

  -- the local side's write
  local-same : (a : ℕ) (p : Register) → Stands a p → may_write Local p ≡ true → octet_of_register units r (with_alias alias p v) status p ≡ v
  local-same a Unlisted s w = absurd (false≢true w)
  local-same a (Fixed i) s w = absurd (false≢true w)
  local-same a (Address i) s w = absurd (false≢true w)
  local-same a (Alias i) s w = (fields-read-back 2 alias i v small).same s.1
  local-same a (OfEntity n i) s w = absurd (false≢true w)
  local-same a (OfChannel n i) s w = absurd (false≢true w)

  local-other : (a b : ℕ) (p q : Register) → Stands a p → Stands b q → b ≢ a → octet_of_register units r (with_alias alias p v) status q ≡ octet_of_register units r alias status q
  local-other a b Unlisted q s t ne = refl
  local-other a b (Fixed i) q s t ne = refl
  local-other a b (Address i) q s t ne = refl
  local-other a b (OfEntity n i) q s t ne = refl
  local-other a b (OfChannel n i) q s t ne = refl
  local-other a b (Alias i) Unlisted s t ne = refl
  local-other a b (Alias i) (Fixed j) s t ne = refl
  local-other a b (Alias i) (Address j) s t ne = refl
  local-other a b (Alias i) (Alias j) s t ne = (fields-read-back 2 alias i v small).other j (λ e. ne (omega arith))
  local-other a b (Alias i) (OfEntity m j) s t ne = refl
  local-other a b (Alias i) (OfChannel m j) s t ne = refl

pub registers-read-back : RegistersReadBack
registers-read-back units status r alias a v eight small = (
  record {
    same = same-of units status r alias v eight small a (register_of a) (stands a);
    other = λ b ne. other-of units status r alias v eight small a b (register_of a) (register_of b) (stands a) (stands b) ne;
  },
  record {
    same = local-same units status r alias v eight small a (register_of a) (stands a);
    other = λ b ne. local-other units status r alias v eight small a b (register_of a) (register_of b) (stands a) (stands b) ne;
  },
)

-- The laws of one datagram.
use Rattle.std.proofs.Common.{◌≡◌, ℕ, suc, ◌+◌, ◌*◌, ◌/◌, ◌%◌, ◌<◌, ◌≤◌, Bool, cond, not, ltb, List, [], ◌∷◌, ◌++◌, map, length, sym, refl, ap, ◌∙◌, arith}
use Rattle.std.proofs.lemmas.List.{length-map, length-append, map-append, append_assoc}
use Rattle.std.proofs.lemmas.List.Sums.{fold-append}
use Rattle.std.proofs.lemmas.Simd.{map-map}
use Rattle.std.proofs.lemmas.Bool.Decides.{nat_tests}
use Rattle.frame.specs.declared.command.Action.{Action}
use Rattle.frame.specs.declared.outcome.Outcome.{Outcome}
use Rattle.frame.specs.declared.outcome.Tally.{Tally}
use Rattle.frame.specs.declared.outcome.Tally.TheVariants.{Nothing, Success, Failure}
use Rattle.frame.specs.declared.datagram.Datagram.{Datagram}
use Rattle.frame.specs.declared.cursor.Position.TheVariants as at
use Rattle.frame.specs.Commands.{command_of, addressing_of, action_of, is_addressed, forwards_next, write_worth}
use Rattle.frame.specs.Outcomes.{met, worth}
use Rattle.frame.specs.Datagrams.{tallied, added}
use Rattle.frame.specs.Cursors.{to, data_from, followed_by, carried, shown, wanted_at}
use Rattle.std.specs.List.{list_any}
use Rattle.frame.specs.Wire.{Item, octets, next, out, after, leaving, Telegram, Formed, head, foot, wire, reaches, refused, succeeds, gained, passed}
use Rattle.frame.specs.Laws.{DatagramLeaves, DatagramIsFollowed, DataOctetAsks}
use Rattle.frame.proofs.Steps.{emitted-append, pair-back, length_back, more-back, next_low, next-high, sum_low, sum-high}

-- TALLIES of a list of outcomes, and what they are worth
abbrev pub met_all : {X F : Type 0} → Tally → List (Outcome X F) → Tally
met_all t [] = t
met_all t (x ∷ xs) = met_all (met t x) xs

failed : {X F : Type 0} (xs : List (Outcome X F)) → met_all Failure xs ≡ Failure
failed [] = refl
failed (x ∷ xs) = grind (arith, failed xs)

going : {X F : Type 0} (xs : List (Outcome X F)) (n : ℕ) → worth (met_all Success xs) n ≡ cond (not (list_any refused xs)) n 0
going [] n = refl
going (x ∷ xs) n = grind (arith, going xs n, failed xs)

earned : {X F : Type 0} (xs : List (Outcome X F)) (n : ℕ) → worth (met_all Nothing xs) n ≡ cond (succeeds xs) n 0
earned [] n = refl
earned (x ∷ xs) n = grind (arith, earned xs n, going xs n, failed xs)

worth-small : (k : Action) → write_worth k < 3
worth-small k = grind arith

-- THE DATAGRAM as its header leaves it, and after some of its data
abbrev pub headed : {F : Type 0} → Bool → Telegram F → List (Item F) → Datagram
headed more t xs =
    record {
      command = command_of t.command;
      adp = t.adp;
      ado = t.ado;
      length = length t.items;
      more = more;
      addressed = reaches t;
      read = met_all Nothing (map (λ x. x.1.accessed.read) xs);
      write = met_all Nothing (map (λ x. x.1.accessed.write) xs);
    }

-- where data octet j of n stands
in-data : (j n : ℕ) → j < n → data_from j n ≡ at.Data j
in-data j n h = grind (arith, nat_tests)

past-data : (j n : ℕ) → n ≤ j → data_from j n ≡ at.CounterLow
past-data j n h = grind (arith, nat_tests)

module _ {F : Type 0} where
  abbrev tallied_all : Datagram → List (Item F) → Datagram
  tallied_all d [] = d
  tallied_all d (x ∷ xs) = tallied_all (tallied d x.1.accessed.read x.1.accessed.write) xs

  tallied-is : (d : Datagram) (xs : List (Item F)) →
      tallied_all d xs ≡ record { command = d.command; adp = d.adp; ado = d.ado; length = d.length; more = d.more; addressed = d.addressed; read = met_all d.read (map (λ x. x.1.accessed.read) xs); write = met_all d.write (map (λ x. x.1.accessed.write) xs) }
  tallied-is d [] = refl
  tallied-is d (x ∷ xs) = tallied-is (tallied d x.1.accessed.read x.1.accessed.write) xs

  -- the data octets one after the other, from data octet j on
  after-data : (d : Datagram) (j : ℕ) (xs : List (Item F)) → j + length xs ≤ d.length →
      after (to (data_from j d.length) d) xs ≡ to (data_from (j + length xs) d.length) (tallied_all d xs)
  after-data d j [] h = let same : j ≡ j + 0 = omega arith in ap (λ k. to (data_from k d.length) d) same
  after-data d j (x ∷ xs) h =
      let here : j < d.length = omega arith in
      let there : (j + 1) + length xs ≡ j + suc (length xs) = omega arith in
      let e = tallied d x.1.accessed.read x.1.accessed.write in
      ap (λ p. after (to p d) (x ∷ xs)) (in-data j d.length here) ∙ after-data e (j + 1) xs (omega arith) ∙ ap (λ k. to (data_from k d.length) (tallied_all e xs)) there

  data-leaves : (d : Datagram) (j : ℕ) (xs : List (Item F)) → j + length xs ≤ d.length →
      leaving (to (data_from j d.length) d) xs ≡ map (λ x. shown d.command x.0 x.1.accessed.laid) xs
  data-leaves d j [] h = refl
  data-leaves d j (x ∷ xs) h =
      let here : j < d.length = omega arith in
      let e = tallied d x.1.accessed.read x.1.accessed.write in
      ap (λ p. leaving (to p d) (x ∷ xs)) (in-data j d.length here) ∙ ap (λ l. shown d.command x.0 x.1.accessed.laid ∷ l) (data-leaves e (j + 1) xs (omega arith))

  -- after the header, and after some data
  pub after-head : (d : Datagram) (more : Bool) (t : Telegram F) → Formed t → after (to at.Command d) (head more t) ≡ to (data_from 0 (length t.items)) (headed more t [])
  after-head d more t f =
      let n = length t.items in
      let long = length_back n t.spare more f.length-fits in
      let follows = more-back n t.spare more f.length-fits f.spare-fits in
      λ i. to (data_from 0 (long i)) (record {
        command = command_of t.command;
        adp = pair-back t.adp i;
        ado = pair-back t.ado i;
        length = long i;
        more = follows i;
        addressed = is_addressed (addressing_of (command_of t.command)) (pair-back t.adp i) (t.beside 3).addresses;
        read = Nothing;
        write = Nothing;
      })

  pub after-some : (d : Datagram) (more : Bool) (t : Telegram F) (xs : List (Item F)) → Formed t → length xs ≤ length t.items →
      after (to at.Command d) (head more t ++ xs) ≡ to (data_from (0 + length xs) (length t.items)) (headed more t xs)
  after-some d more t xs f h =
      fold-append next (to at.Command d) (head more t) xs ∙ ap (λ c. after c xs) (after-head d more t f) ∙ after-data (headed more t []) 0 xs (omega arith) ∙ ap (to (data_from (0 + length xs) (length t.items))) (tallied-is (headed more t []) xs)

  pub after_items : (d : Datagram) (more : Bool) (t : Telegram F) → Formed t → after (to at.Command d) (head more t ++ t.items) ≡ to at.CounterLow (headed more t t.items)
  after_items d more t f =
      after-some d more t t.items f (omega arith) ∙ ap (λ p. to p (headed more t t.items)) (past-data (0 + length t.items) (length t.items) (omega arith))

  pub after-wire : (d : Datagram) (more : Bool) (t : Telegram F) → Formed t → after (to at.Command d) (wire more t) ≡ to (followed_by more) (headed more t t.items)
  after-wire d more t f =
      ap (after (to at.Command d)) (sym (append_assoc (head more t) t.items (foot t))) ∙ fold-append next (to at.Command d) (head more t ++ t.items) (foot t) ∙ ap (λ c. after c (foot t)) (after_items d more t f)

  -- WHAT LEAVES: header, data, counter
  head-leaves : (d : Datagram) (more : Bool) (t : Telegram F) → Formed t → leaving (to at.Command d) (head more t) ≡ octets (head more (passed t))
  head-leaves d more t f =
      let counts = forwards_next (addressing_of (command_of t.command)) in
      let long = sym (length-map t.items (λ x. (shown (command_of t.command) x.0 x.1.accessed.laid, x.1))) in
      λ i. t.command ∷ t.index ∷ next_low counts t.adp i ∷ next-high counts t.adp f.adp-fits i ∷ (t.ado % 256) ∷ (t.ado / 256) ∷ (long i % 256) ∷ (long i / 256 + 8 * t.spare + cond more 128 0) ∷ (t.irq % 256) ∷ (t.irq / 256) ∷ []

  items-leave : (more : Bool) (t : Telegram F) → leaving (to (data_from 0 (length t.items)) (headed more t [])) t.items ≡ octets (passed t).items
  items-leave more t =
      data-leaves (headed more t []) 0 t.items (omega arith) ∙ sym (map-map (λ x. x.0) (λ x. (shown (command_of t.command) x.0 x.1.accessed.laid, x.1)) t.items)

  added_is : (more : Bool) (t : Telegram F) → added (headed more t t.items) ≡ gained t
  added_is more t =
      λ i. earned (map (λ x. x.1.accessed.read) t.items) 1 i + earned (map (λ x. x.1.accessed.write) t.items) (write_worth (action_of (command_of t.command))) i

  gained-small : (t : Telegram F) → gained t < 4
  gained-small t = let w : write_worth (action_of (command_of t.command)) < 3 = worth-small _ in grind (arith, nat_tests)

  foot-leaves : (more : Bool) (t : Telegram F) → Formed t → leaving (to at.CounterLow (headed more t t.items)) (foot t) ≡ octets (foot (passed t))
  foot-leaves more t f =
      ap (λ g. (t.counter % 256 + g) % 256 ∷ carried (ltb 255 (t.counter % 256 + g)) (t.counter / 256) ∷ []) (added_is more t)
      ∙ (λ i. sum_low t.counter (gained t) i ∷ sum-high t.counter (gained t) f.counter-fits (gained-small t) i ∷ [])

  pub wire-leaves : (d : Datagram) (more : Bool) (t : Telegram F) → Formed t → leaving (to at.Command d) (wire more t) ≡ octets (wire more (passed t))
  wire-leaves d more t f =
      let c = to at.Command d in
      let s = to (data_from 0 (length t.items)) (headed more t []) in
      let all : after s t.items ≡ to at.CounterLow (headed more t t.items) = ap (λ c. after c t.items) (sym (after-head d more t f)) ∙ sym (fold-append next c (head more t) t.items) ∙ after_items d more t f in
      emitted-append next out c (head more t) (t.items ++ foot t)
      ∙ ap (λ c. leaving (to at.Command d) (head more t) ++ leaving c (t.items ++ foot t)) (after-head d more t f)
      ∙ ap (λ l. leaving c (head more t) ++ l) (emitted-append next out s t.items (foot t) ∙ ap (λ c. leaving s t.items ++ leaving c (foot t)) all)
      ∙ (λ i. head-leaves d more t f i ++ (items-leave more t i ++ foot-leaves more t f i))
      ∙ ap (λ l. octets (head more (passed t)) ++ l) (sym (map-append (λ x. x.0) (passed t).items (foot (passed t))))

  -- THE LAWS, at a cursor whose position is known to be a command's
  pub datagram-leaves : DatagramLeaves F
  datagram-leaves c more t e f = ap (λ p. leaving (to p c.datagram) (wire more t)) e ∙ wire-leaves c.datagram more t f

  pub datagram-is-followed : DatagramIsFollowed F
  datagram-is-followed c more t e f =
      ap (λ p. (after (to p c.datagram) (wire more t)).position) e ∙ ap (λ c. c.position) (after-wire c.datagram more t f)

  pub data-octet-asks : DataOctetAsks F
  data-octet-asks c more t before rest x e f split =
      let long : length t.items ≡ length before + suc (length rest) = ap length split ∙ length-append before (x ∷ rest) in
      let here : 0 + length before ≡ length before = omega arith in
      let now = after-some c.datagram more t before f (omega arith) ∙ ap (λ k. to (data_from k (length t.items)) (headed more t before)) here
      ∙ ap (λ p. to p (headed more t before)) (in-data (length before) (length t.items) (omega arith)) in
      ap (λ p. wanted_at (after (to p c.datagram) (head more t ++ before)).position (after (to p c.datagram) (head more t ++ before)).datagram) e
      ∙ ap (λ s. wanted_at s.position s.datagram) now

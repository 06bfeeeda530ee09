-- Places of the buffers in the memory. Assumes nothing.
use Rattle.std.proofs.Common.{◌≡◌, ℕ, ◌+◌, ◌-◌, ◌*◌, ◌<◌, ◌≤◌, true, leb, ◌≢◌, ap, ⊎_elim, mul-le-mul_right, zero-mul, arith}
use Rattle.std.proofs.lemmas.Bool.{and_parts, leb-true, cases_order}
use Rattle.channel.specs.declared.setting.Kind.{Kind}
use Rattle.channel.specs.declared.setting.Kind.TheVariants.{Buffered, Mailbox}
use Rattle.channel.specs.declared.setting.Window.{Window}
use Rattle.channel.specs.declared.service.Buffer.{Buffer}
use Rattle.channel.specs.declared.service.Buffer.TheVariants.{First, Second, Third}
use Rattle.channel.specs.Windows.{size_of, area_size, in_memory, buffer_in, place_in}
use Rattle.channel.specs.Services.{number_of}

pub number-below : (b : Buffer) → number_of b < 3
number-below First = omega arith
number-below Second = omega arith
number-below Third = omega arith

below : (L b c j k : ℕ) → b < c → j < L → b * L + j < c * L + k
below L b c j k h jl = omega (arith, mul-le-mul_right L h)

-- a place of a buffer lies in the area
in_size : (A L b j : ℕ) (k : Kind) → b < 3 → j < L → A + buffer_in k b * L + j < A + size_of k L
in_size A L b j Mailbox h jl = omega (arith, zero-mul L)
in_size A L b j Buffered h jl = omega (arith, mul-le-mul_right L h)

pub place-from : (w : Window) (b j : ℕ) → w.start - 0x1000 ≤ place_in w b j
place-from w b j = omega arith

pub place-below : (w : Window) (b : Buffer) (j : ℕ) → j < w.length → place_in w (number_of b) j < w.start - 0x1000 + area_size w
place-below w b j jl = in_size (w.start - 0x1000) w.length (number_of b) j w.kind (number-below b) jl

-- the area lies in the memory
pub area-below : (w : Window) (n : ℕ) → in_memory n w ≡ true → w.start - 0x1000 + area_size w ≤ n
area-below w n e = leb-true _ _ (and_parts (leb 0x1000 w.start) _ e).1

pub place-exists : (w : Window) (n : ℕ) → in_memory n w ≡ true → (b : Buffer) (j : ℕ) → j < w.length → place_in w (number_of b) j < n
place-exists w n e b j jl = let x = place-below w b j jl in let y = area-below w n e in omega arith

-- two buffers have no place in common
pub apart : (w : Window) (b c j k : ℕ) → w.kind ≡ Buffered → b ≢ c → j < w.length → k < w.length → place_in w b j ≢ place_in w c k
apart w b c j k e ne jl kl =
    let x : buffer_in w.kind b ≡ b = ap (λ (q : Kind). buffer_in q b) e in
    let y : buffer_in w.kind c ≡ c = ap (λ (q : Kind). buffer_in q c) e in
    let p : buffer_in w.kind b * w.length ≡ b * w.length = ap (λ n. n * w.length) x in
    let q : buffer_in w.kind c * w.length ≡ c * w.length = ap (λ n. n * w.length) y in
    ⊎_elim (λ z. absurd (ne z))
    (⊎_elim (λ h. let f = below w.length b c j k h jl in omega arith) (λ h. let f = below w.length c b k j h kl in omega arith))
    (cases_order b c)

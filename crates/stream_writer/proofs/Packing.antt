-- Bits packed into bytes, eight at once: they fill the byte, and leave as many held as before.
-- Assumes nothing.
use mathlib.Core.List.{List, ◌∷◌, ◌++◌}
use mathlib.Core.Path.{◌≡◌, ◌∙◌, refl, ap}
use Prim.Native.Nat.{ℕ, ◌+◌, ◌*◌, ◌-◌, ◌/◌, ◌%◌, ◌^◌, ◌<◌}
use native.Mathlib.Omega.{arith}
use borrow.Author.Count.{below_none, below_more}
use Rattle.bits.proofs.Below.{below_at}
use Rattle.orders.specs.Streams.{number_bits, packed_from}

same_packed : {a b c d : ℕ} (filled : ℕ) (more : List ℕ) → a ≡ b → c ≡ d → a ∷ packed_from c filled more ≡ b ∷ packed_from d filled more
same_packed filled more e f = λ i. e i ∷ packed_from (f i) filled more

-- A byte behind what is held.
abbrev Filled : ℕ → ℕ → List ℕ → ℕ → List ℕ
Filled held byte more filled = (held * 256 + byte) / 2 ^ filled ∷ packed_from ((held * 256 + byte) % 2 ^ filled) filled more

-- Eight bits, for each count of bits held.
module _ (held a b c d e f g h : ℕ) (la : a < 2) (lb : b < 2) (lc : c < 2) (ld : d < 2) (le : e < 2) (lf : f < 2) (lg : g < 2) (lh : h < 2)
    (more : List ℕ) where
  abbrev At : ℕ → Type 0
  At filled = packed_from held filled (a ∷ b ∷ c ∷ d ∷ e ∷ f ∷ g ∷ h ∷ more)
      ≡ Filled held (a * 128 + b * 64 + c * 32 + d * 16 + e * 8 + f * 4 + g * 2 + h) more filled

  eight_packed : (filled : ℕ) → filled < 8 → At filled
  eight_packed =
      below_more At 7 (below_more At 6 (below_more At 5 (below_more At 4 (below_more At 3 (below_more At 2 (below_more At 1 (below_more At 0 (below_none At)
      (same_packed 0 more (omega arith) (omega arith))) (same_packed 1 more (omega arith) (omega arith))) (same_packed 2 more (omega arith) (omega arith)))
      (same_packed 3 more (omega arith) (omega arith))) (same_packed 4 more (omega arith) (omega arith))) (same_packed 5 more (omega arith) (omega arith)))
      (same_packed 6 more (omega arith) (omega arith))) (same_packed 7 more (omega arith) (omega arith))

bit_low : (n : ℕ) → n % 2 < 2
bit_low n = omega arith

abbrev weighed : ℕ → ℕ
weighed n =
    n / 128 % 2 * 128 + n / 64 % 2 * 64 + n / 32 % 2 * 32 + n / 16 % 2 * 16 + n / 8 % 2 * 8 + n / 4 % 2 * 4 + n / 2 % 2 * 2 + n / 1 % 2

pub byte_packed : (held byte filled : ℕ) → byte < 256 → filled < 8 → (more : List ℕ)
    → packed_from held filled (number_bits 8 byte ++ more) ≡ Filled held byte more filled
byte_packed held byte filled low part more =
    eight_packed held (byte / 128 % 2) (byte / 64 % 2) (byte / 32 % 2) (byte / 16 % 2) (byte / 8 % 2) (byte / 4 % 2) (byte / 2 % 2) (byte / 1 % 2)
    (bit_low _) (bit_low _) (bit_low _) (bit_low _) (bit_low _) (bit_low _) (bit_low _) (bit_low _) more filled part
    ∙ ap (λ n. Filled held n more filled) (below_at 256 weighed (λ n. n) refl byte low)

-- The two parts of a byte behind what is held, and the last byte, each of which is a byte.
pub record Parts (held byte filled : ℕ) : Type 0 where
  pub whole : 1 * 2 ^ filled % 2 ^ 32 ≡ 2 ^ filled
  pub some : 0 < 2 ^ filled
  pub upper : (held * 256 + byte) / 2 ^ filled < 256
  pub lower : (held * 256 + byte) % 2 ^ filled < 256
  pub last : held * 2 ^ (8 - filled) < 256

module _ (held byte : ℕ) (low : byte < 256) where
  abbrev PartsAt : ℕ → Type 0
  PartsAt filled = held < 2 ^ filled → Parts held byte filled

  pub parts : (filled : ℕ) → filled < 8 → PartsAt filled
  parts =
      below_more PartsAt 7 (below_more PartsAt 6 (below_more PartsAt 5 (below_more PartsAt 4 (below_more PartsAt 3 (below_more PartsAt 2
      (below_more PartsAt 1 (below_more PartsAt 0 (below_none PartsAt) (λ h. omega arith)) (λ h. omega arith)) (λ h. omega arith)) (λ h. omega arith))
      (λ h. omega arith)) (λ h. omega arith)) (λ h. omega arith)) (λ h. omega arith)

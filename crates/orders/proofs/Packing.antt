-- Bits packed into bytes: each is read at its place, the last byte is filled up with zeros, and bytes beyond stay.
-- Assumes nothing.
use mathlib.Core.List.{List, [], ◌∷◌, ◌++◌}
use mathlib.Core.Logic.{⊎_elim}
use mathlib.Core.Path.{◌≡◌, ◌∙◌, refl, sym, ap, subst}
use Prim.Native.Nat.{ℕ, zero, suc, ◌+◌, ◌*◌, ◌-◌, ◌/◌, ◌%◌, ◌^◌, ◌<◌, ◌≤◌}
use native.Mathlib.Nat.{add-zero}
use native.Mathlib.Omega.{arith}
use lib.Dec.{T, ltb, ltb→lt}
use lib.ListN.{length, get_or, drop, replicate, get_or-append}
use lib.Pow.{shr_le}
use lib.Seq.{sets, sets-eq, get_or-append-add, get_or-drop}
use borrow.Author.Count.{below_none, below_more}
use borrow.Author.Tests.{ltb-true, ltb-false}
use Rattle.bits.specs.Bits.{bit_of, bits_of}
use Rattle.bits.proofs.Truth.{cases, and_left, and_right}
use Rattle.bits.proofs.BitRanges.{binary, binary_behind}
use Rattle.orders.specs.Streams.{packed}

each_low : (bits : List ℕ) → T (binary bits) → (i : ℕ) → get_or bits i 0 < 2
each_low [] b i = omega arith
each_low (bit ∷ bits) b zero = ltb→lt bit 2 (and_left (ltb bit 2) (binary bits) b)
each_low (bit ∷ bits) b (suc i) = each_low bits (and_right (ltb bit 2) (binary bits) b) i

-- Zeros behind a list change none of its numbers.
zeros_behind : (bits : List ℕ) (n i : ℕ) → get_or (bits ++ replicate n 0) i 0 ≡ get_or bits i 0
zeros_behind [] zero i = refl
zeros_behind [] (suc n) zero = refl
zeros_behind [] (suc n) (suc i) = zeros_behind [] n i
zeros_behind (bit ∷ bits) n zero = refl
zeros_behind (bit ∷ bits) n (suc i) = zeros_behind bits n i

-- A bit of the first byte, and of those behind it.
first_byte : (byte : ℕ) (bytes : List ℕ) (i : ℕ) → i < 8 → bit_of (byte ∷ bytes) i ≡ byte / 2 ^ (7 - i) % 2
first_byte byte bytes i h =
    let e : i / 8 ≡ 0 = omega arith in
    let f : i % 8 ≡ i = omega arith in
    rw (e, f)

later_byte : (byte : ℕ) (bytes : List ℕ) (i : ℕ) → bit_of (byte ∷ bytes) (8 + i) ≡ bit_of bytes i
later_byte byte bytes i =
    let e : (8 + i) / 8 ≡ suc (i / 8) = omega arith in
    let f : (8 + i) % 8 ≡ i % 8 = omega arith in
    rw (e, f)

no_bytes : (i : ℕ) → bit_of [] i ≡ 0
no_bytes i = omega (arith, shr_le 0 (7 - i % 8))

-- What holds of each bit of some packed bits.
abbrev Read : List ℕ → List ℕ → Type 0
Read bytes bits = (i : ℕ) → bit_of bytes i ≡ get_or bits i 0

-- Eight bits, and others behind them.
module _ (a b c d e f g h : ℕ) (more : List ℕ) where
  abbrev eight : List ℕ
  eight = a ∷ b ∷ c ∷ d ∷ e ∷ f ∷ g ∷ h ∷ []

  abbrev byte : ℕ
  byte = ((((((((0 * 2 + a) * 2 + b) * 2 + c) * 2 + d) * 2 + e) * 2 + f) * 2 + g) * 2 + h)

  module _ (low : (i : ℕ) → get_or (eight ++ more) i 0 < 2) where
    abbrev At : ℕ → Type 0
    At i = byte / 2 ^ (7 - i) % 2 ≡ get_or eight i 0

    lows : (a < 2) × (b < 2) × (c < 2) × (d < 2) × (e < 2) × (f < 2) × (g < 2) × (h < 2)
    lows = (low 0, low 1, low 2, low 3, low 4, low 5, low 6, low 7)

    its_bits : (i : ℕ) → i < 8 → At i
    its_bits =
        let l = lows in
        below_more At 7 (below_more At 6 (below_more At 5 (below_more At 4 (below_more At 3 (below_more At 2 (below_more At 1 (below_more At 0
        (below_none At) (omega arith)) (omega arith)) (omega arith)) (omega arith)) (omega arith)) (omega arith)) (omega arith)) (omega arith)

    eight_read : (bytes : List ℕ) → Read bytes more → Read (byte ∷ bytes) (eight ++ more)
    eight_read bytes rest i =
        ⊎_elim
        (λ t.
        let l = ltb-true i 8 t in
        first_byte byte bytes i l ∙ its_bits i l ∙ sym (get_or-append eight more 0 i l))
        (λ t.
        let l = ltb-false i 8 t in
        let j : 8 + (i - 8) ≡ i = omega arith in
        subst (λ n. bit_of (byte ∷ bytes) n ≡ get_or (eight ++ more) n 0) j
        (later_byte byte bytes (i - 8) ∙ rest (i - 8) ∙ sym (get_or-append-add eight more (i - 8) 0)))
        (cases (ltb i 8))

-- Fewer than eight are read as if zeros were behind them.
module _ (bits : List ℕ) (b : T (binary bits)) (n : ℕ) where
  padded_low : (i : ℕ) → get_or (bits ++ replicate n 0) i 0 < 2
  padded_low i = subst (λ v. v < 2) (sym (zeros_behind bits n i)) (each_low bits b i)

  unpadded : {held byte : ℕ} → held ≡ byte → Read (byte ∷ []) (bits ++ replicate n 0) → Read (held ∷ []) bits
  unpadded e read i = ap (λ v. bit_of (v ∷ []) i) e ∙ read i ∙ zeros_behind bits n i

pub packed_read : (bits : List ℕ) → T (binary bits) → (i : ℕ) → bit_of (packed bits) i ≡ get_or bits i 0
packed_read [] t = no_bytes
packed_read (a ∷ []) t = let bits = a ∷ [] in
    unpadded bits t 7 (omega arith) (eight_read a 0 0 0 0 0 0 0 [] (padded_low bits t 7) [] no_bytes)
packed_read (a ∷ b ∷ []) t = let bits = a ∷ b ∷ [] in
    unpadded bits t 6 (omega arith) (eight_read a b 0 0 0 0 0 0 [] (padded_low bits t 6) [] no_bytes)
packed_read (a ∷ b ∷ c ∷ []) t = let bits = a ∷ b ∷ c ∷ [] in
    unpadded bits t 5 (omega arith) (eight_read a b c 0 0 0 0 0 [] (padded_low bits t 5) [] no_bytes)
packed_read (a ∷ b ∷ c ∷ d ∷ []) t = let bits = a ∷ b ∷ c ∷ d ∷ [] in
    unpadded bits t 4 (omega arith) (eight_read a b c d 0 0 0 0 [] (padded_low bits t 4) [] no_bytes)
packed_read (a ∷ b ∷ c ∷ d ∷ e ∷ []) t = let bits = a ∷ b ∷ c ∷ d ∷ e ∷ [] in
    unpadded bits t 3 (omega arith) (eight_read a b c d e 0 0 0 [] (padded_low bits t 3) [] no_bytes)
packed_read (a ∷ b ∷ c ∷ d ∷ e ∷ f ∷ []) t = let bits = a ∷ b ∷ c ∷ d ∷ e ∷ f ∷ [] in
    unpadded bits t 2 (omega arith) (eight_read a b c d e f 0 0 [] (padded_low bits t 2) [] no_bytes)
packed_read (a ∷ b ∷ c ∷ d ∷ e ∷ f ∷ g ∷ []) t = let bits = a ∷ b ∷ c ∷ d ∷ e ∷ f ∷ g ∷ [] in
    unpadded bits t 1 (omega arith) (eight_read a b c d e f g 0 [] (padded_low bits t 1) [] no_bytes)
packed_read (a ∷ b ∷ c ∷ d ∷ e ∷ f ∷ g ∷ h ∷ more) t =
    eight_read a b c d e f g h more (each_low (a ∷ b ∷ c ∷ d ∷ e ∷ f ∷ g ∷ h ∷ more) t) (packed more)
    (packed_read more (binary_behind (a ∷ b ∷ c ∷ d ∷ e ∷ f ∷ g ∷ h ∷ []) more t))

-- As many bytes as the bits need.
pub packed_length : (bits : List ℕ) → length (packed bits) ≡ (length bits + 7) / 8
packed_length [] = refl
packed_length (a ∷ []) = refl
packed_length (a ∷ b ∷ []) = refl
packed_length (a ∷ b ∷ c ∷ []) = refl
packed_length (a ∷ b ∷ c ∷ d ∷ []) = refl
packed_length (a ∷ b ∷ c ∷ d ∷ e ∷ []) = refl
packed_length (a ∷ b ∷ c ∷ d ∷ e ∷ f ∷ []) = refl
packed_length (a ∷ b ∷ c ∷ d ∷ e ∷ f ∷ g ∷ []) = refl
packed_length (a ∷ b ∷ c ∷ d ∷ e ∷ f ∷ g ∷ h ∷ more) = let rest = packed_length more in omega arith

-- A range whose bits are those of a list.
pub bits_same : (bits input : List ℕ) (first : ℕ) → ((i : ℕ) → i < length bits → bit_of input (first + i) ≡ get_or bits i 0)
    → bits_of input first (length bits) ≡ bits
bits_same [] input first same = refl
bits_same (bit ∷ bits) input first same =
    let here : bit_of input first ≡ bit = ap (bit_of input) (sym (add-zero first)) ∙ same 0 (omega arith) in
    let rest = bits_same bits input (first + 1) (λ i h.
    let e : first + 1 + i ≡ first + suc i = omega arith in
    ap (bit_of input) e ∙ same (suc i) (omega arith)) in
    λ i. here i ∷ rest i

-- Packed bits at the start of an output that has room for them.
module _ (bits output : List ℕ) (room : length bits ≤ 8 * length output) where
  abbrev after : List ℕ
  after = sets output 0 (packed bits)

  abbrev bytes : ℕ
  bytes = (length bits + 7) / 8

  written : after ≡ packed bits ++ drop bytes output
  written =
      let long = packed_length bits in
      let e : 0 + length (packed bits) ≡ bytes = omega arith in
      sets-eq (packed bits) output 0 (omega arith) ∙ ap (λ n. packed bits ++ drop n output) e

  pub written_read : T (binary bits) → (i : ℕ) → i < 8 * bytes → bit_of after i ≡ get_or bits i 0
  written_read b i h =
      let long = packed_length bits in
      ap (λ (l : List ℕ). bit_of l i) written
      ∙ ap (λ n. n / 2 ^ (7 - i % 8) % 2) (get_or-append (packed bits) (drop bytes output) 0 (i / 8) (omega arith)) ∙ packed_read bits b i

  pub written_beyond : (n : ℕ) → bytes ≤ n → get_or after n 0 ≡ get_or output n 0
  written_beyond n h =
      let long = packed_length bits in
      let e : length (packed bits) + (n - bytes) ≡ n = omega arith in
      let f : bytes + (n - bytes) ≡ n = omega arith in
      ap (λ (l : List ℕ). get_or l n 0) written ∙ ap (λ k. get_or (packed bits ++ drop bytes output) k 0) (sym e)
      ∙ get_or-append-add (packed bits) (drop bytes output) (n - bytes) 0 ∙ get_or-drop bytes output (n - bytes) 0 ∙ ap (λ k. get_or output k 0) f

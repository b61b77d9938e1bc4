-- Numbers, digit by digit.
-- Assumes nothing.
use mathlib.Core.Bool.{Bool, true, false, cond}
use mathlib.Core.List.{List, [], ◌∷◌}
use mathlib.Core.Path.{◌≡◌, ◌∙◌, refl, ap}
use Prim.Native.Nat.{ℕ, ◌+◌, ◌*◌, ◌%◌, ◌^◌, ◌≤◌, ◌<◌}
use native.Mathlib.Nat.{mul-le-mul_left}
use native.Mathlib.Numerals.{add-one}
use native.Mathlib.Omega.{arith}
use lib.ListN.{length, get_or, drop, drop_of_length-le}
use lib.Seq.{drop-cons}
use borrow.Author.Tests.{lt-ltb, le-ltb}
use Rattle.bits.proofs.Below.{below_at}
use Rattle.std.proofs.Common.{Option, Some, None, MatchOption}
use Rattle.std.specs.Bool.{then_some}
use Rattle.text_numbers.specs.Numbers.{digit_of, number_limit, with_digit, number_from, number_of, passing}

-- What is left of a word stands for what all of it does.
pub record NumberLeft (base : ℕ) (word : List ℕ) (value i : ℕ) : Type 0 where
  pub within : i ≤ length word
  pub some : 0 < length word
  pub same : number_from base value (drop i word) ≡ number_of base word

whole_number : (base : ℕ) (word : List ℕ) → 0 < length word → number_from base 0 word ≡ number_of base word
unfolding number_of
whole_number base [] h = absurd (omega arith)
whole_number base (c ∷ cs) h = refl

pub number_first : (base : ℕ) (word : List ℕ) → 0 < length word → NumberLeft base word 0 0
number_first base word h = record { within = omega arith; some = h; same = whole_number base word h }

pub number_none : (base : ℕ) (word : List ℕ) → length word ≡ 0 → None ≡ number_of base word
unfolding number_of
number_none base [] h = refl
number_none base (c ∷ cs) h = absurd (omega arith)

module _ {base : ℕ} {word : List ℕ} {value i : ℕ} (n : NumberLeft base word value i) where
  module _ (h : i < length word) where
    pub number_wrong : base ≤ digit_of (get_or word i 0) → None ≡ number_of base word
    unfolding number_from
    number_wrong d = rw (drop-cons word i 0 h, le-ltb (digit_of (get_or word i 0)) base d) at n.same

    pub number_next : digit_of (get_or word i 0) < base → NumberLeft base word (with_digit base value (digit_of (get_or word i 0))) (i + 1)
    unfolding number_from
    number_next d = record {
      within = omega arith;
      some = n.some;
      same = rw add-one (rw (drop-cons word i 0 h, lt-ltb (digit_of (get_or word i 0)) base d) at n.same);
    }

  pub number_done : length word ≤ i → Some value ≡ number_of base word
  unfolding number_from
  number_done h = rw (drop_of_length-le word {i = i} h) at n.same

-- A number that a test keeps.
pub passing_told : (test : ℕ → Bool) (Gives : ℕ → Bool → Type 0) (number kept : Option ℕ) → ((n : ℕ) (b : Bool) → Gives n b → b ≡ test n)
    → MatchOption number (kept ≡ None) (λ n. (b : Bool) × Gives n b × (kept ≡ then_some b n)) → kept ≡ passing test number
passing_told test Gives None kept f none = none
passing_told test Gives (Some n) kept f (b, gives, kept_is) = kept_is ∙ then_some_cond b ∙ ap (λ (t : Bool). cond t (Some n) None) (f n b gives)
  where
    then_some_cond : (b : Bool) → then_some b n ≡ cond b (Some n) None
    then_some_cond true = refl
    then_some_cond false = refl

-- A digit more keeps to 64 bits.
pub digit_room : (base n d : ℕ) → base ≤ 16 → n < number_limit → d < base → n * base + d < 2 ^ 64
digit_room base n d b h l = omega (arith, mul-le-mul_left n b)

-- Two to a field's width, as a word.
pub two_to_width : (width : ℕ) → width ≤ 27 → 1 * 2 ^ width % 2 ^ 64 ≡ 2 ^ width
two_to_width width h = below_at 28 (λ w. 1 * 2 ^ w % 2 ^ 64) (λ w. 2 ^ w) refl width (omega arith)

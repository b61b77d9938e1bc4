-- The word COUNT: by its parts, and in numbers.
-- Assumes nothing.
use mathlib.Core.Path.{◌≡◌, refl}
use mathlib.Core.Bool.{true}
use mathlib.Core.List.{List}
use Prim.Native.Nat.{ℕ, ◌<◌, ◌≤◌}
use native.Mathlib.Omega.{arith}
use lib.ListN.{length}
use borrow.Author.Tests.{le-leb, lt-leb}
use Rattle.std.proofs.Common.{Option, Some, None}
use Rattle.text_numbers.specs.Numbers.{number_from, number_of, decimal}
use Rattle.replies.specs.Replies.{most_bits, expected_fits}
use Rattle.reply_words.specs.Words.{fit_number, data_bits, WordExamples}

pub word_examples : WordExamples
unfolding number_from number_of data_bits
word_examples = record { least = refl; most = refl; zeros = refl; none = refl; more = refl; long = refl; hexadecimal = refl; empty = refl }

pub fit_bits : (n : ℕ) → (n ≡ 0 → ⊥) → n ≤ most_bits → expected_fits n ≡ true
fit_bits n some few = simp (le-leb 1 n (omega (arith, some)), le-leb n most_bits few)

module _ (word : List ℕ) where
  pub too_long : 4 < length word → 0 ≡ data_bits word
  unfolding data_bits
  too_long h = simp (lt-leb (length word) 4 h)

  -- by the number that is read
  module _ (short : length word ≤ 4) where
    by_number : (number : Option ℕ) → number ≡ decimal word → fit_number number ≡ data_bits word
    unfolding data_bits
    by_number number e = rw (← e) (simp (le-leb (length word) 4 short))

    pub no_number : (number : Option ℕ) → number ≡ None → number ≡ decimal word → 0 ≡ data_bits word
    no_number number n e = rw n at (by_number number e)

    module _ (number : Option ℕ) (e : number ≡ decimal word) (n : ℕ) (s : number ≡ Some n) where
      numbered : fit_number (Some n) ≡ data_bits word
      numbered = rw s at (by_number number e)

      pub zero_number : n ≡ 0 → 0 ≡ data_bits word
      zero_number z = rw z at numbered

      pub more_number : most_bits < n → 0 ≡ data_bits word
      more_number h = rw (lt-leb n most_bits h) at numbered

      pub fit_number_lem : n ≤ most_bits → n ≡ data_bits word
      fit_number_lem h = rw (le-leb n most_bits h) at numbered

-- How long the text of a character can be.
-- Assumes nothing.
use mathlib.Core.Bool.{◌&&◌}
use Prim.Native.Char.{code}
use Prim.Native.Nat.{ℕ}
use native.Mathlib.Omega.{arith}
use lib.Dec.{leb, eqb}
use Rattle.bits.proofs.Truth.{choice}
use Rattle.output.specs.Ascii.{ascii}
use Rattle.decimal_digits.proofs.Lengths.{labelled_length, Short}
use Rattle.wrong_characters.specs.WrongCharacters.{character_text}

pub character_length : (c : ℕ) → Short 50 (character_text c)
unfolding character_text
character_length c =
    choice (Short 50) (eqb c (code "\r")) (λ _. omega arith)
    (λ _. choice (Short 50) (eqb c (code " ")) (λ _. omega arith)
    (λ _. choice (Short 50) (eqb c (code "\t")) (λ _. omega arith)
    (λ _. choice (Short 50) (leb (code "a") c && leb c (code "z")) (λ _. omega arith)
    (λ _. omega (arith, labelled_length (ascii "byte ") c (ascii ", none of 0-9 and A-F\n"))))))

-- The texts of numbers in a row, put into a block one by one; and the state's text, which fits a program's block.
-- Assumes nothing.
use mathlib.Core.Bool.{cond}
use mathlib.Core.List.{List, [], ◌∷◌, ◌++◌}
use mathlib.Core.Path.{◌≡◌, refl}
use Prim.Native.Nat.{ℕ, zero, suc, ◌+◌, ◌*◌, ◌-◌, ◌/◌, ◌%◌, ◌≤◌, ◌<◌}
use native.Mathlib.Omega.{arith}
use lib.Dec.{eqb}
use lib.ListN.{length, get_or, length-append}
use Rattle.bits.proofs.Truth.{choice}
use Rattle.plans.specs.Plan.{exists_at}
use Rattle.registers.specs.Registers.{read_of}
use Rattle.limits.specs.Limits.{store_length}
use Rattle.decoder.specs.declared.Decoder.{Decoder}
use Rattle.output.specs.Ascii.{ascii}
use Rattle.output.specs.Block.{block_length, block, put_if_fits}
use Rattle.output.proofs.Pieces.{PartlyPut, none_put, next_put_if_fits}
use Rattle.number_lines.proofs.LineLengths.{line_length}
use Rattle.state_listing.specs.State.{address_count, fifo_count, fifo_length, texts_from, register_text, pointers_text, fifo_word_text, state_text}

pub texts_none_put : (text : ℕ → List ℕ) (n : ℕ) (out : List ℕ) (at : ℕ) → at + length (texts_from n 0 text) ≤ length out
    → PartlyPut out at (texts_from n 0 text) out at (texts_from (n - 0) 0 text)
texts_none_put text n out at h = let e : n - 0 ≡ n = omega arith in rw e (none_put out at (texts_from n 0 text) h)

module _ (text : ℕ → List ℕ) (n i : ℕ) where
  abbrev later_texts : List ℕ
  later_texts = texts_from (n - (i + 1)) (i + 1) text

  texts_next : i < n → (line : List ℕ) → text i ≡ line → texts_from (n - i) i text ≡ line ++ later_texts
  unfolding texts_from
  texts_next h line same = let e : n - i ≡ suc (n - (i + 1)) = omega arith in rw (e, same)

  pub texts_all_put : n ≤ i → texts_from (n - i) i text ≡ []
  unfolding texts_from
  texts_all_put h = let e : n - i ≡ 0 = omega arith in rw e

  module _ (h : i < n) {out₀ : List ℕ} {at : ℕ} {whole out : List ℕ} {place : ℕ} (l : PartlyPut out₀ at whole out place (texts_from (n - i) i text)) where
    -- the next text, by a call that puts a line where it fits
    pub text_put : (line : List ℕ) → text i ≡ line → (out' : List ℕ) (place' : ℕ) → block out' place' ≡ put_if_fits out place line
        → PartlyPut out₀ at whole out' place' later_texts
    text_put line e = next_put_if_fits l line later_texts (texts_next h line e)

    -- or none
    pub text_empty : text i ≡ [] → PartlyPut out₀ at whole out place later_texts
    text_empty e = rw (← texts_next h [] e) l

-- Texts of a bounded length.
texts_length : (text : ℕ → List ℕ) (most : ℕ) → ((k : ℕ) → length (text k) ≤ most) → (n i : ℕ) → length (texts_from n i text) ≤ n * most
unfolding texts_from
texts_length text most h zero i = omega arith
texts_length text most h (suc n) i = rw length-append (omega (arith, h i, texts_length text most h n (i + 1)))

-- All of the state's text fits a block.
module _ (d : Decoder) (store : List ℕ) (words : length store ≡ store_length) where
  register_length : (i : ℕ) → length (register_text d.plan d.model i) ≤ 16
  register_length i =
      choice (λ (l : List ℕ). length l ≤ 16) (exists_at d.plan i)
      (λ _. omega (arith, line_length (ascii "register ") (i ∷ read_of d.plan d.model i ∷ []) (1 ∷ 4 ∷ []) refl))
      (λ _. omega arith)

  pointers_length : (i : ℕ) → length (pointers_text d.model.pointers i) ≤ 17
  pointers_length i =
      let p = d.model.pointers in
      omega (arith, line_length (ascii "pointers ") (i ∷ get_or p.writes i 0 ∷ get_or p.reads i 0 ∷ []) (1 ∷ 2 ∷ 2 ∷ []) refl)

  fifo_word_length : (i : ℕ) → length (fifo_word_text store i) ≤ 19
  fifo_word_length i =
      choice (λ (l : List ℕ). length l ≤ 19) (eqb (get_or store i 0) 0)
      (λ _. omega arith)
      (λ _. omega (arith, line_length (ascii "word ") (i / fifo_length ∷ i % fifo_length ∷ get_or store i 0 ∷ []) (1 ∷ 2 ∷ 8 ∷ []) refl))

  pub state_fits_block : length (state_text d store) ≤ block_length
  unfolding state_text
  state_fits_block =
      simp length-append
      (omega (
        arith,
        texts_length (register_text d.plan d.model) 16 register_length address_count 0,
        line_length (ascii "l1id ") (d.model.counters.l1id ∷ []) (2 ∷ []) refl,
        line_length (ascii "base ") (d.model.counters.base ∷ []) (12 ∷ []) refl,
        line_length (ascii "runmode ") (cond d.model.running 1 0 ∷ []) (1 ∷ []) refl,
        texts_length (pointers_text d.model.pointers) 17 pointers_length fifo_count 0,
        texts_length (fifo_word_text store) 19 fifo_word_length (length store) 0,
      ))

  pub state_none_put : (out : List ℕ) → length out ≡ block_length → PartlyPut out 0 (state_text d store) out 0 (state_text d store)
  state_none_put out long = none_put out 0 (state_text d store) (omega (arith, state_fits_block))

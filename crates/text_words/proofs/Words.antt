-- What stands ahead of a character of a text, and the words of a text: the parts between blanks that have a character.
-- Assumes nothing.
use mathlib.Core.Bool.{Bool, true, false, cond, not, ◌&&◌}
use mathlib.Core.List.{List, [], ◌∷◌, ◌++◌}
use mathlib.Core.Path.{◌≡◌, ◌∙◌, refl, sym, ap}
use Prim.Native.Nat.{ℕ, zero, suc, ◌+◌, ◌-◌, ◌<◌, ◌≤◌}
use native.Mathlib.Omega.{arith}
use lib.Dec.{eqb, ltb}
use lib.Pointwise.{pointwise}
use lib.ListN.{length, get_or, take, drop, length-append, length-drop, drop_of_length-le}
use lib.Seq.{take_all}
use borrow.Author.Tests.{ltb-false}
use Rattle.std.proofs.Common.{Option, Some, None, is_some, append_assoc, append-nil}
use Rattle.std.proofs.lemmas.List.Recursion.{is_position_or_len}
use Rattle.std.proofs.lemmas.List.Sums.{prefix_len-le-length}
use Rattle.std.specs.List.{position_or_len}
use Rattle.std.specs.Option.{unwrap_or}
use Rattle.bits.proofs.Truth.{choice, clash}
use Rattle.text_words.specs.Words.{up_to, is_blank, ended_word, words_from, words_in, from_word, same_word}

-- A place that was searched for, all of the text where there is none.
pub position_told : (p : ℕ → Bool) (text : List ℕ) (r : Option ℕ)
    → r ≡ cond (ltb (position_or_len p text) (length text)) (Some (position_or_len p text)) None
    → unwrap_or r (length text) ≡ position_or_len p text
position_told p text r e =
    let within = prefix_len-le-length (λ c. not (p c)) text in
    rw e
    (choice (λ (o : Option ℕ). unwrap_or o (length text) ≡ position_or_len p text) (ltb (position_or_len p text) (length text))
    (λ _. refl) (λ l. let h = ltb-false (position_or_len p text) (length text) l in omega (arith, h, within)))

-- ---- up to a character

module _ (character : ℕ) where
  pub up_to_within : (text : List ℕ) → length (up_to character text) ≤ length text
  unfolding up_to
  up_to_within [] = omega arith
  up_to_within (c ∷ cs) =
      choice (λ (l : List ℕ). length l ≤ suc (length cs)) (eqb c character) (λ _. omega arith) (λ _. omega (arith, up_to_within cs))

  pub up_to_take : (text : List ℕ) → take (length (up_to character text)) text ≡ up_to character text
  unfolding up_to
  up_to_take [] = refl
  up_to_take (c ∷ cs) =
      choice (λ (l : List ℕ). take (length l) (c ∷ cs) ≡ l) (eqb c character) (λ _. refl) (λ _. ap (λ (l : List ℕ). c ∷ l) (up_to_take cs))

  abbrev is_it : ℕ → Bool
  is_it c = eqb c character

  first_place : (text : List ℕ) → length (up_to character text) ≡ position_or_len is_it text
  unfolding up_to
  first_place = is_position_or_len (λ (l : List ℕ). length (up_to character l)) is_it refl step
    where
      step : (c : ℕ) (cs : List ℕ) → length (cond (is_it c) [] (c ∷ up_to character cs)) ≡ cond (is_it c) 0 (1 + length (up_to character cs))
      step c cs = choice (λ (l : List ℕ). length l ≡ cond (is_it c) 0 (1 + length (up_to character cs))) (is_it c) (λ e. rw e) (λ e. rw e (omega arith))

  -- by a search for its place
  pub place_told : (text : List ℕ) (r : Option ℕ)
      → r ≡ cond (ltb (position_or_len is_it text) (length text)) (Some (position_or_len is_it text)) None
      → unwrap_or r (length text) ≡ length (up_to character text)
  place_told text r e = position_told is_it text r e ∙ sym (first_place text)

-- ---- the blanks ahead of the words

abbrev pub not_blank : ℕ → Bool
not_blank c = not (is_blank c)

-- The next place is one more.
next_place : (n : ℕ) → 1 + n ≡ suc n
next_place n = omega arith

blanks_off : (text : List ℕ) → drop (position_or_len not_blank text) text ≡ from_word text
unfolding from_word
blanks_off [] = refl
blanks_off (c ∷ cs) = by (is_blank c) (blanks_off cs)
  where
    by : (b : Bool) → drop (position_or_len not_blank cs) cs ≡ from_word cs
        → drop (cond (not (not b)) (1 + position_or_len not_blank cs) 0) (c ∷ cs) ≡ cond b (from_word cs) (c ∷ cs)
    by true e = ap (λ (n : ℕ). drop n (c ∷ cs)) (next_place (position_or_len not_blank cs)) ∙ e
    by false e = refl

pub same_words : (text : List ℕ) → words_in (from_word text) ≡ words_in text
unfolding words_from from_word
same_words [] = refl
same_words (c ∷ cs) = by (is_blank c) refl (same_words cs)
  where
    by : (b : Bool) → is_blank c ≡ b → words_in (from_word cs) ≡ words_in cs → words_in (cond b (from_word cs) (c ∷ cs)) ≡ words_in (c ∷ cs)
    by true s e =
        let blank : words_in (c ∷ cs) ≡ words_in cs = rw s in
        e ∙ sym blank
    by false s e = refl

place_some : (b : Bool) (k at : ℕ) → Some at ≡ cond b (Some k) None → at ≡ k
place_some true k at e = ap (λ (o : Option ℕ). unwrap_or o 0) e
place_some false k at e = clash (sym (ap is_some e)) refl

place_none : (b : Bool) (k : ℕ) → None ≡ cond b (Some k) None → b ≡ false
place_none true k e = clash (ap is_some e) refl
place_none false k e = refl

-- by a search for the first character of a word
module _ (text : List ℕ) (r : Option ℕ) where
  abbrev first_at : ℕ
  first_at = position_or_len not_blank text

  module _ (e : r ≡ cond (ltb first_at (length text)) (Some first_at) None) where
    pub from_place : (at : ℕ) → r ≡ Some at → drop at text ≡ from_word text
    from_place at s = ap (λ (n : ℕ). drop n text) (place_some (ltb first_at (length text)) first_at at (sym s ∙ e)) ∙ blanks_off text

    pub from_no_place : r ≡ None → [] ≡ from_word text
    from_no_place n =
        let far = ltb-false first_at (length text) (place_none (ltb first_at (length text)) _ (sym n ∙ e)) in
        sym (drop_of_length-le text {i = first_at} far) ∙ blanks_off text

-- The characters between two places.
abbrev pub part : List ℕ → ℕ → ℕ → List ℕ
part text start end = take (end - start) (drop start text)

pub part_rest : (text : List ℕ) (start : ℕ) → part text start (length text) ≡ drop start text
part_rest text start = take_all (length text - start) (drop start text) (omega (arith, length-drop start text))

-- ---- the first word, and what stands behind it

abbrev word_length : List ℕ → ℕ
word_length text = position_or_len is_blank text

word_off : (word text : List ℕ) → words_from word text ≡ ended_word (word ++ take (word_length text) text) (words_in (drop (word_length text) text))
unfolding words_from
word_off word [] = ap (λ (w : List ℕ). ended_word w []) (sym (append-nil word))
word_off word (c ∷ cs) = by (is_blank c) refl (word_off (word ++ (c ∷ [])) cs)
  where
    by : (b : Bool) → is_blank c ≡ b
        → words_from (word ++ (c ∷ [])) cs ≡ ended_word ((word ++ (c ∷ [])) ++ take (word_length cs) cs) (words_in (drop (word_length cs) cs))
        → cond b (ended_word word (words_in cs)) (words_from (word ++ (c ∷ [])) cs)
        ≡ ended_word (word ++ take (cond (not b) (1 + word_length cs) 0) (c ∷ cs)) (words_in (drop (cond (not b) (1 + word_length cs) 0) (c ∷ cs)))
    by true s e = rw (append-nil, s) refl
    by false s e = e ∙ rw (next_place (word_length cs), append_assoc) refl

-- A text that begins with a word is that word, and what stands behind it.
module _ (c : ℕ) (cs : List ℕ) (begins : is_blank c ≡ false) where
  long : word_length (c ∷ cs) ≡ suc (word_length cs)
  long = rw begins (next_place (word_length cs))

  first_word : words_in (c ∷ cs) ≡ take (word_length (c ∷ cs)) (c ∷ cs) ∷ words_in (drop (word_length (c ∷ cs)) (c ∷ cs))
  first_word = word_off [] (c ∷ cs) ∙ rw long refl

-- Of a text that begins with a word, or is empty, and of what stands behind that word.
module _ (text : List ℕ) (begins : is_blank (get_or text 0 0) ≡ false) (at : ℕ) (place : at ≡ word_length text) where
  pub word_here : take at text ≡ get_or (words_in text) 0 []
  unfolding words_from
  word_here = ap (λ (n : ℕ). take n text) place ∙ by text begins
    where
      by : (text : List ℕ) → is_blank (get_or text 0 0) ≡ false → take (word_length text) text ≡ get_or (words_in text) 0 []
      by [] begins = refl
      by (c ∷ cs) begins = rw (first_word c cs begins) refl

  module _ (behind : List ℕ) (told : words_in behind ≡ words_in (part text at (length text))) where
    dropped : words_in behind ≡ words_in (drop (word_length text) text)
    dropped = told ∙ ap words_in (part_rest text at) ∙ ap (λ (n : ℕ). words_in (drop n text)) place

    pub words_behind : (n : ℕ) → get_or (words_in behind) n [] ≡ get_or (words_in text) (suc n) []
    unfolding words_from
    words_behind n = ap (λ (l : List (List ℕ)). get_or l n []) dropped ∙ by text begins
      where
        by : (text : List ℕ) → is_blank (get_or text 0 0) ≡ false
            → get_or (words_in (drop (word_length text) text)) n [] ≡ get_or (words_in text) (suc n) []
        by [] begins = refl
        by (c ∷ cs) begins = rw (first_word c cs begins) refl

    pub count_behind : 0 < length text → suc (length (words_in behind)) ≡ length (words_in text)
    count_behind some = ap (λ (l : List (List ℕ)). suc (length l)) dropped ∙ by text begins some
      where
        by : (text : List ℕ) → is_blank (get_or text 0 0) ≡ false → 0 < length text
            → suc (length (words_in (drop (word_length text) text))) ≡ length (words_in text)
        by [] begins some = omega (arith, some)
        by (c ∷ cs) begins some = rw (first_word c cs begins) refl

  pub word_some : 0 < length text → 0 < at
  word_some some = rw place (by text begins some)
    where
      by : (text : List ℕ) → is_blank (get_or text 0 0) ≡ false → 0 < length text → 0 < word_length text
      by [] begins some = omega (arith, some)
      by (c ∷ cs) begins some = omega (arith, long c cs begins)

-- No word is longer than its text.
ended_short : (word : List ℕ) (words : List (List ℕ)) (n most : ℕ) → length word ≤ most → ((k : ℕ) → length (get_or words k []) ≤ most)
    → length (get_or (ended_word word words) n []) ≤ most
ended_short [] words n most h f = f n
ended_short (c ∷ cs) words zero most h f = h
ended_short (c ∷ cs) words (suc n) most h f = f n

word_from_short : (word text : List ℕ) (n : ℕ) → length (get_or (words_from word text) n []) ≤ length word + length text
unfolding words_from
word_from_short word [] n = ended_short word [] n (length word + 0) (omega arith) (λ k. omega arith)
word_from_short word (c ∷ cs) n =
    choice (λ (l : List (List ℕ)). length (get_or l n []) ≤ length word + suc (length cs)) (is_blank c)
    (λ _. ended_short word (words_from [] cs) n (length word + suc (length cs)) (omega arith) (λ k. omega (arith, word_from_short [] cs k)))
    (λ _. omega (arith, word_from_short (word ++ (c ∷ [])) cs n, length-append word (c ∷ [])))

pub word_short : (text : List ℕ) (n : ℕ) → length (get_or (words_in text) n []) ≤ length text
word_short text n = omega (arith, word_from_short [] text n)

-- ---- equal words

pub equal_words : (a b : List ℕ) → pointwise eqb a b ≡ same_word a b
unfolding same_word
equal_words [] [] = refl
equal_words [] (b ∷ y) = refl
equal_words (a ∷ x) [] = refl
equal_words (a ∷ x) (b ∷ y) = ap (λ (t : Bool). eqb a b && t) (equal_words x y)

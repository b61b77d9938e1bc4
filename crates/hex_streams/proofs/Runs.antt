-- A run that takes a stream part by part: what is said in the end stays, as characters of a block are read and as the input ends.
-- Assumes nothing.
use Rattle.std.proofs.Common.{◌≡◌, ℕ, ◌≤◌, Bool, true, false, not, ◌&&◌, ltb, List, [], ◌++◌, length, drop, sym, refl, ap, ◌∙◌, ⊎_elim, arith, drop_of_length-le, ltb-false}
use borrow.Author.Tests.{not-false}
use Rattle.bits.proofs.Truth.{cases, not_other, true_holds}
use Rattle.hex_streams.specs.declared.StreamSoFar.{StreamSoFar}
use Rattle.hex_streams.specs.declared.StreamPart.{StreamPart}
use Rattle.hex_streams.specs.Streams.{HexStream, ahead}
use Rattle.hex_streams.specs.SoFar.{stream_end, rest_of, part_bits, ReadsOn, EndsInput}

-- A block read up to a place: `still` is what is said in the end, given the characters that are still to come.
pub record ReadTo {S A : Type 0} (still : S → List ℕ → A) (from : S) (input : List ℕ) (next : ℕ) (s : S) : Type 0 where
  pub within : next ≤ length input
  pub same : (more : List ℕ) → still s (drop next input ++ more) ≡ still from (input ++ more)

-- The stream of a run, and what it says in the end, given what still comes of the stream.
module _ {S A : Type 0} (stream_in : S → StreamSoFar) (said_on : S → HexStream → A) where
  abbrev pub still_said : S → List ℕ → A
  still_said s characters = said_on s (rest_of (stream_in s) characters)

  -- A part's bits go from what still comes to the run.
  pub record TakesPart (s : S) (part : StreamPart) (r : S) : Type 0 where
    pub stream : stream_in r ≡ part.stream
    pub said : (rest : HexStream) → said_on r rest ≡ said_on s (ahead (part_bits part) rest)

  pub at_first : (s : S) (input : List ℕ) → ReadTo still_said s input 0 s
  at_first s input = record { within = omega arith; same = λ more. refl }

  module _ (from : S) (input : List ℕ) (next : ℕ) (s : S) (i : ReadTo still_said from input next s) where
    pub read_on : (part : StreamPart) (r : S) → ReadsOn (stream_in s) input next part → TakesPart s part r → ReadTo still_said from input part.next r
    read_on part r reads t = record {
      within = reads.within;
      same = λ more.
          let rest = drop part.next input ++ more in
          ap (λ (u : StreamSoFar). said_on r (rest_of u rest)) t.stream
          ∙ t.said (rest_of part.stream rest)
          ∙ ap (said_on s) (sym (reads.same more))
          ∙ i.same more;
    }

    -- The block's end, or a run that is over, which says the same whatever comes.
    pub read_through : (over : Bool) → (over ≡ true → (a b : List ℕ) → still_said s a ≡ still_said s b)
        → (ltb next (length input) && not over) ≡ false → (more : List ℕ) → still_said s more ≡ still_said from (input ++ more)
    read_through over stays e more =
        ⊎_elim
        (λ (l : ltb next (length input) ≡ true).
        stays (not-false over (not_other (ltb next (length input)) _ e (true_holds _ l))) more (drop next input ++ more))
        (λ (l : ltb next (length input) ≡ false).
        ap (λ (rest : List ℕ). still_said s (rest ++ more)) (sym (drop_of_length-le input {i = next} (ltb-false next (length input) l))))
        (cases (ltb next (length input)))
        ∙ i.same more

  -- The input's end.
  pub at_last : (s : S) (part : StreamPart) (r : S) → EndsInput (stream_in s) part → TakesPart s part r → said_on r (stream_end (stream_in r)) ≡ still_said s []
  at_last s part r e t =
      ap (λ (u : StreamSoFar). said_on r (stream_end u)) t.stream ∙ t.said (stream_end part.stream) ∙ ap (said_on s) (sym e.same)

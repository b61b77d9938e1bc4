-- What still comes of a stream, as characters of a block are read and as the input ends.
-- Assumes nothing.
use Rattle.std.proofs.Common.{◌≡◌, ℕ, ◌+◌, ◌*◌, ◌<◌, ◌≤◌, Bool, true, false, not, ◌||◌, T, eqb, leb, List, [], ◌∷◌, ◌++◌, length, drop, sym, refl, ap, ◌∙◌, arith, eq-eqb, ne_eqb, eqb-true}
use borrow.Author.Tests.{not-false}
use Rattle.limits.specs.Limits.{clock_limit}
use Rattle.bits.proofs.BitRanges.{binary, binary_append, bits_all}
use Rattle.bits.proofs.Truth.{choice, neither, clash}
use Rattle.line_meanings.specs.declared.Scanned.{Scanned}
use Rattle.line_meanings.specs.Lines.{empty_line, no_characters, scan_of, read_so_far, read_from, LineRead, lines_of, lines_read, next_line_number}
use Rattle.line_meanings.proofs.Blocks.{lines, scan_complete, scan_incomplete, scan_to_end, scan_within, scan_advances}
use Rattle.hex_streams.specs.declared.StreamSoFar.{StreamSoFar}
use Rattle.hex_streams.specs.declared.StreamPart.{StreamPart}
use Rattle.hex_streams.specs.Streams.{HexStream, ahead, bits_of_line, stream_lines, hex_stream_of}
use Rattle.hex_streams.specs.SoFar.{so_far, start, stream_end, rest_of, WellFormed, EndsLine, ReadsOn, EndsInput, part_bits}

-- A stream that goes on, and one that a refusal has ended.
pub going : (s : StreamSoFar) (characters : List ℕ) → s.number ≡ 0
    → rest_of s characters ≡ stream_lines s.bits s.lines (read_from s.line characters)
unfolding rest_of
going s characters e = rw (eq-eqb s.number 0 e)

pub refused : (s : StreamSoFar) (characters : List ℕ) → (s.number ≡ 0 → ⊥) → rest_of s characters ≡ stream_end s
unfolding rest_of
refused s characters n = rw (ne_eqb s.number 0 n)

-- From the start all comes.
pub from_start : (characters : List ℕ) → rest_of start characters ≡ hex_stream_of characters
unfolding hex_stream_of
from_start characters = going start characters refl ∙ ap (stream_lines 0 0) (lines characters)

-- A scan up to the next line feed, or to the block's end.
module _ (s : StreamSoFar) (w : WellFormed s) (goes : s.number ≡ 0) (input : List ℕ) (at : ℕ) (some : at < length input)
    (scanned : Scanned) (e : scanned ≡ scan_of s.line input at) where
  abbrev longer : StreamSoFar
  longer = so_far scanned.line s.lines s.bits 0

  within : scanned.next ≤ length input
  within = rw e (scan_within s.line input at (omega arith))

  advances : at < scanned.next
  advances = rw e (scan_advances s.line input at some)

  pub line_ended : scanned.complete ≡ true → {p : StreamPart} → EndsLine longer scanned.next p → ReadsOn s input at p
  line_ended complete {p} l = record {
    fits = record { well_formed = l.fits.well_formed; few = l.fits.few; counted = l.fits.counted };
    advances = rw l.place advances;
    within = rw l.place within;
    same = λ more.
        let rest = drop scanned.next input ++ more in
        let read : read_from s.line (drop at input ++ more) ≡ read_so_far scanned.line ∷ read_from empty_line rest =
        rw e (scan_complete s.line input at more (rw e at complete)) in
        going s (drop at input ++ more) goes
        ∙ ap (stream_lines s.bits s.lines) read
        ∙ l.same rest
        ∙ ap (λ (n : ℕ). ahead (part_bits p) (rest_of p.stream (drop n input ++ more))) (sym l.place);
  }

  pub line_open : scanned.complete ≡ false → (bytes : List ℕ)
      → ReadsOn s input at (record { stream = longer; bytes = bytes; count = 0; next = scanned.next })
  line_open incomplete bytes = record {
    fits = record { well_formed = w; few = omega arith; counted = omega arith };
    advances = advances;
    within = within;
    same = λ more.
        let o : (scan_of s.line input at).complete ≡ false = rw e at incomplete in
        let rest = drop scanned.next input ++ more in
        let read : read_from s.line (drop at input ++ more) ≡ read_from scanned.line rest =
        rw (e, scan_to_end s.line input at o) (scan_incomplete s.line input at more o) in
        going s (drop at input ++ more) goes
        ∙ ap (stream_lines s.bits s.lines) read
        ∙ sym (going longer rest refl);
  }

-- At the end of the input: no line has begun, or a refusal has ended the stream.
none_begun : (s : StreamSoFar) → s.number ≡ 0 → no_characters s.line ≡ true → rest_of s [] ≡ stream_end s
unfolding read_from stream_lines
none_begun s goes none = going s [] goes ∙ rw (none, eq-eqb s.number 0 goes)

ends_by : (s : StreamSoFar) (b : Bool) → eqb s.number 0 ≡ b → (not b || no_characters s.line) ≡ true → rest_of s [] ≡ stream_end s
ends_by s true z e = none_begun s (eqb-true s.number 0 z) e
ends_by s false z e = refused s [] (λ n. clash (eq-eqb s.number 0 n) z)

-- So it is behind a line's end.
fresh_by : (s : StreamSoFar) (b : Bool) → eqb s.number 0 ≡ b → (s.number ≡ 0 → s.line ≡ empty_line) → rest_of s [] ≡ stream_end s
fresh_by s true z fresh = let goes = eqb-true s.number 0 z in none_begun s goes (ap no_characters (fresh goes))
fresh_by s false z fresh = refused s [] (λ n. clash (eq-eqb s.number 0 n) z)

module _ {s : StreamSoFar} (w : WellFormed s) where
  pub ends_here : (bytes : List ℕ) → (not (eqb s.number 0) || no_characters s.line) ≡ true
      → EndsInput s (record { stream = s; bytes = bytes; count = 0; next = 0 })
  ends_here bytes e = record {
    fits = record { well_formed = w; few = omega arith; counted = omega arith };
    none_begun = λ z. rw (eq-eqb s.number 0 z) at e;
    same = ends_by s (eqb s.number 0) refl e;
  }

  -- Or a line has begun, and ends.
  pub ends_line : (not (eqb s.number 0) || no_characters s.line) ≡ false → {p : StreamPart} → EndsLine s 0 p → EndsInput s p
  unfolding read_from
  ends_line e {p} l =
      let n = neither (not (eqb s.number 0)) (no_characters s.line) e in
      let goes : s.number ≡ 0 = eqb-true s.number 0 (not-false (eqb s.number 0) n.0) in
      let read : read_from s.line [] ≡ read_so_far s.line ∷ read_from empty_line [] = rw n.1 in
      record {
        fits = l.fits;
        none_begun = λ z. ap no_characters (l.fresh z);
        same =
            going s [] goes
            ∙ ap (stream_lines s.bits s.lines) read
            ∙ l.same []
            ∙ ap (ahead (part_bits p)) (fresh_by p.stream (eqb p.stream.number 0) refl l.fresh);
      }

-- All bits of a stream are bits.
carried_binary : (lines : List LineRead) (bits n : ℕ) → T (binary (stream_lines bits n lines).bits)
unfolding stream_lines
carried_binary [] bits n = tt
carried_binary (line ∷ lines) bits n =
    let bytes = line.meaning.bytes in
    let more = bits_of_line line in
    choice (λ (r : HexStream). T (binary r.bits)) (eqb line.meaning.number 0)
    (λ _. choice (λ (r : HexStream). T (binary r.bits)) (leb (bits + length more) clock_limit)
    (λ _. binary_append more _ (bits_all bytes 0 (8 * length bytes)) (carried_binary lines (bits + length more) (next_line_number n)))
    (λ _. tt))
    (λ _. tt)

pub stream_binary : (characters : List ℕ) → T (binary (hex_stream_of characters).bits)
unfolding hex_stream_of
stream_binary characters = carried_binary (lines_read (lines_of characters)) 0 0

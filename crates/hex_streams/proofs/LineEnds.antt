-- The end of a line: it is refused, its bits pass the last cycle, or they are handed on.
-- Assumes nothing.
use Rattle.std.proofs.Common.{◌≡◌, ℕ, ◌+◌, ◌-◌, ◌*◌, ◌<◌, ◌≤◌, true, leb, List, length, sym, refl, arith, ne_eqb, le-leb}
use borrow.Author.Tests.{lt-leb}
use Rattle.limits.specs.Limits.{clock_limit, input_limit}
use Rattle.bits.specs.Bits.{bits_of}
use Rattle.bits.specs.Range.{range_fits}
use Rattle.bits.proofs.BitRanges.{length_bits}
use Rattle.line_meanings.specs.declared.LineSoFar.{LineSoFar}
use Rattle.line_meanings.specs.Line.{line_bytes, hex_number}
use Rattle.line_meanings.specs.Lines.{empty_line, answer_of, meaning_so_far, read_so_far, read_from, next_line_number}
use Rattle.line_meanings.proofs.FitLines.{line_fits, fitting_bits}
use Rattle.hex_streams.specs.declared.StreamSoFar.{StreamSoFar}
use Rattle.hex_streams.specs.declared.StreamPart.{StreamPart}
use Rattle.hex_streams.specs.Streams.{ahead, bits_of_line, stream_lines}
use Rattle.hex_streams.specs.SoFar.{so_far, refused_at, rest_of, WellFormed, PartFits, EndsLine}

module _ (s : StreamSoFar) (w : WellFormed s) (next lines : ℕ) (counted : lines ≡ next_line_number s.lines) where
  none_handed : (line : LineSoFar) (number : ℕ) → PartFits s (refused_at s line lines number next)
  none_handed line number = record { well_formed = w; few = omega arith; counted = omega arith }

  -- it is refused
  pub line_refused : (number : ℕ) → number ≡ hex_number (answer_of s.line) → (number ≡ 0 → ⊥) → EndsLine s next (refused_at s s.line lines number next)
  unfolding rest_of stream_lines meaning_so_far
  line_refused number e n = record {
    fits = none_handed s.line number;
    place = refl;
    fresh = λ z. absurd (n z);
    same = λ characters. rw (← e, ne_eqb number 0 n, counted);
  }

  -- it is not
  module _ (right : hex_number (answer_of s.line) ≡ 0) (bytes : length s.line.bytes ≡ line_bytes) where
    abbrev bits : List ℕ
    bits = bits_of s.line.bytes 0 (4 * s.line.digits)

    its_bits : bits_of_line (read_so_far s.line) ≡ bits
    its_bits = fitting_bits s.line (line_fits s.line right) bytes

    many : length bits ≡ 4 * s.line.digits
    many = length_bits s.line.bytes 0 (4 * s.line.digits)

    -- its bits pass the last cycle
    pub clock_refused : clock_limit - s.bits < 4 * s.line.digits → EndsLine s next (refused_at s empty_line lines 6 next)
    unfolding rest_of stream_lines meaning_so_far
    clock_refused h = record {
      fits = none_handed empty_line 6;
      place = refl;
      fresh = λ _. refl;
      same = λ characters. rw (right, its_bits, lt-leb (s.bits + length bits) clock_limit (omega (arith, many, w)), counted);
    }

    -- its bits are handed on
    pub handed_on : s.bits + 4 * s.line.digits ≤ clock_limit → (line : LineSoFar) → line ≡ empty_line
        → EndsLine s next (record {
          stream = so_far line lines (s.bits + 4 * s.line.digits) 0;
          bytes = s.line.bytes;
          count = 4 * s.line.digits;
          next = next;
        })
    unfolding rest_of stream_lines meaning_so_far
    handed_on inside line empty =
        let few = (line_fits s.line right).few in
        record {
          fits = record { well_formed = inside; few = omega (arith, few); counted = refl };
          place = refl;
          fresh = λ _. empty;
          same = λ characters.
              let goes_on : leb (s.bits + length bits) clock_limit ≡ true = le-leb (s.bits + length bits) clock_limit (omega (arith, inside, many)) in
              rw (right, its_bits, goes_on)
              (λ i. ahead bits (stream_lines (s.bits + many i) (sym counted i) (read_from (sym empty i) characters)));
        }

-- The bits of a part are within its bytes.
pub part_ranged : {s : StreamSoFar} {p : StreamPart} → PartFits s p → length p.bytes ≡ line_bytes → range_fits (length p.bytes) 0 p.count ≡ true
part_ranged {p = p} f long =
    simp (
      le-leb (length p.bytes) input_limit (omega (arith, long)),
      le-leb (0 + p.count) (8 * length p.bytes) (omega (arith, long, f.few)),
    )

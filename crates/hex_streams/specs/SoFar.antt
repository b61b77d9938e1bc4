-- A stream of hexadecimal lines as far as it is read: what still comes of it, and what each step hands on.
-- Assumes nothing.
use Rattle.std.specs.Prelude.{◌≡◌, ℕ, ◌+◌, ◌*◌, ◌<◌, ◌≤◌, true, cond, List, [], ◌∷◌, ◌++◌, length, drop, ◌==◌}
use Rattle.limits.specs.Limits.{clock_limit}
use Rattle.bits.specs.Bits.{bits_of}
use Rattle.line_meanings.specs.declared.LineSoFar.{LineSoFar}
use Rattle.line_meanings.specs.Line.{line_bytes}
use Rattle.line_meanings.specs.Lines.{empty_line, no_characters, read_so_far, read_from}
use Rattle.hex_streams.specs.declared.StreamSoFar.{StreamSoFar}
use Rattle.hex_streams.specs.declared.StreamPart.{StreamPart}
use Rattle.hex_streams.specs.Streams.{HexStream, stream_refused, ended, ahead, stream_lines}

abbrev pub so_far : LineSoFar → ℕ → ℕ → ℕ → StreamSoFar
so_far line lines bits number = record { line = line; lines = lines; bits = bits; number = number }

abbrev pub start : StreamSoFar
start = so_far empty_line 0 0 0

abbrev pub refused_at : StreamSoFar → LineSoFar → ℕ → ℕ → ℕ → StreamPart
refused_at s line lines number next =
    record { stream = so_far line lines s.bits number; bytes = line.bytes; count = 0; next = next }

-- What comes if the input ends here, after a line's end: a refusal, or nothing.
abbrev pub stream_end : StreamSoFar → HexStream
stream_end s = cond (s.number == 0) ended (stream_refused s.number s.lines s.line.notes)

-- What still comes, given the characters that are still to come.
unfoldable pub rest_of : StreamSoFar → List ℕ → HexStream
rest_of s characters =
    cond (s.number == 0) (stream_lines s.bits s.lines (read_from s.line characters))
    (stream_refused s.number s.lines s.line.notes)

-- What each has.
abbrev pub WellFormed : StreamSoFar → Type 0
WellFormed s = s.bits ≤ clock_limit

-- The bits that a part hands on.
abbrev pub part_bits : StreamPart → List ℕ
part_bits p = bits_of p.bytes 0 p.count

-- What each part has.
pub record PartFits (s : StreamSoFar) (p : StreamPart) : Type 0 where
  pub well_formed : WellFormed p.stream
  pub few : p.count ≤ 8 * line_bytes
  pub counted : p.stream.bits ≡ s.bits + p.count

-- The end of a line: its bits, then what comes behind it.
pub record EndsLine (s : StreamSoFar) (next : ℕ) (p : StreamPart) : Type 0 where
  pub fits : PartFits s p
  pub place : p.next ≡ next
  pub fresh : p.stream.number ≡ 0 → p.stream.line ≡ empty_line
  pub same : (characters : List ℕ)
      → stream_lines s.bits s.lines (read_so_far s.line ∷ read_from empty_line characters) ≡ ahead (part_bits p) (rest_of p.stream characters)

-- Characters of a block from a place on, whatever more follow.
pub record ReadsOn (s : StreamSoFar) (input : List ℕ) (at : ℕ) (p : StreamPart) : Type 0 where
  pub fits : PartFits s p
  pub advances : at < p.next
  pub within : p.next ≤ length input
  pub same : (more : List ℕ) → rest_of s (drop at input ++ more) ≡ ahead (part_bits p) (rest_of p.stream (drop p.next input ++ more))

-- The input's end, which ends a line that has begun, and leaves none.
pub record EndsInput (s : StreamSoFar) (p : StreamPart) : Type 0 where
  pub fits : PartFits s p
  pub none_begun : p.stream.number ≡ 0 → no_characters p.stream.line ≡ true
  pub same : rest_of s [] ≡ ahead (part_bits p) (stream_end p.stream)

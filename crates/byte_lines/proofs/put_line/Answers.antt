-- `byte_lines::put_line` meets its contract: where the line fits, its three pieces one after the other; else nothing.
-- Assumes nothing.
use mathlib.Core.List.{List, [], ◌∷◌, ◌++◌}
use mathlib.Core.Path.{◌≡◌, refl, sym, ◌∙◌}
use Prim.Native.Nat.{ℕ, ◌+◌, ◌*◌, ◌≤◌, ◌<◌}
use native.Mathlib.Omega.{arith}
use lib.ListN.{length, length-append}
use Rattle.output.specs.Ascii.{line_feed}
use Rattle.output.specs.Block.{block, put_all, put_if_fits}
use Rattle.output.proofs.Pieces.{PartlyPut, none_put, next_put, all_put, put_when_fits, put_when_full}
use Rattle.byte_lines.specs.ByteLines.{byte_digits, bytes_line}
use Rattle.byte_lines.proofs.LineLengths.{bytes_line_length}
use Rattle.byte_lines.proofs.put_line.Goals as goal

module _ (out lead bs : List ℕ) (at : ℕ) where
  abbrev line : List ℕ
  line = lead ++ bytes_line bs

  line_length : length line ≡ length lead + (2 * length bs + 1)
  line_length = rw (length-append, bytes_line_length)

  when_full : length out < at + length lead + (2 * length bs + 1) → block out at ≡ put_if_fits out at line
  when_full full = sym (put_when_full out at line (omega (arith, line_length)))

  module _ (room : at + length lead + (2 * length bs + 1) ≤ length out) where
    -- past the test all of the line is left to put
    whole : PartlyPut out at line out at line
    whole = none_put out at line (omega (arith, line_length))

    module _ (led : List ℕ) (place : ℕ) (e : block led place ≡ put_all out at lead) where
      -- after the lead the bytes and the line feed
      bytes_left : PartlyPut out at line led place (bytes_line bs)
      bytes_left = next_put whole lead (bytes_line bs) refl led place e

      digits_fit : place + length (byte_digits bs) ≤ length led
      digits_fit = omega (arith, bytes_left.fits, length-append (byte_digits bs) (line_feed ∷ []))

      module _ (out' : List ℕ) (end : ℕ) (f : block out' end ≡ put_all led place (byte_digits bs)) where
        -- after the bytes the line feed
        feed_left : PartlyPut out at line out' end (line_feed ∷ [])
        feed_left = next_put bytes_left (byte_digits bs) (line_feed ∷ []) refl out' end f

        -- and then nothing
        line_put : (after : List ℕ) (next : ℕ) → block after next ≡ put_all out' end (line_feed ∷ []) → block after next ≡ put_if_fits out at line
        line_put after next g =
            all_put (next_put feed_left (line_feed ∷ []) [] refl after next g) refl
            ∙ sym (put_when_fits out at line whole.fits)

pub returns-then-room-bytes : goal.returns-then-room-bytes
returns-then-room-bytes c = when_full c.args.out.now c.args.lead.now c.args.bytes.now c.args.at (omega arith)

pub put_byte_digits-end-requires : goal.put_byte_digits-end-requires
put_byte_digits-end-requires c = digits_fit c.args.out.now c.args.lead.now c.args.bytes.now c.args.at (omega arith) _ _ c.put_bytes-place.ensures

pub put_bytes-requires : goal.put_bytes-requires
put_bytes-requires c =
    (feed_left c.args.out.now c.args.lead.now c.args.bytes.now c.args.at (omega arith) _ _ c.put_bytes-place.ensures _ _ c.put_byte_digits-end.ensures).fits

pub returns : goal.returns
returns c =
    line_put c.args.out.now c.args.lead.now c.args.bytes.now c.args.at (omega arith) _ _ c.put_bytes-place.ensures _ _ c.put_byte_digits-end.ensures _ _ c.put_bytes.ensures

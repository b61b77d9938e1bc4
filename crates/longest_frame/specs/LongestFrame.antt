-- The longest front-end frame (document 01, the first edge below the table of streams); the other edge is in `CallTable`.
-- Assumes nothing.
use Rattle.std.specs.Prelude.{◌≡◌, ℕ, zero, suc, ◌+◌, length, replicate}
use Rattle.recogniser.specs.declared.Phase.TheVariants.{Field5}
use Rattle.recogniser.specs.declared.FrameBit.{FrameBit}
use Rattle.recogniser.specs.declared.FrameBit.TheVariants.{None, At}
use Rattle.recogniser.specs.declared.Recogniser.{Recogniser}
use Rattle.recogniser.specs.Parts.{start_of}
use Rattle.slow_fields.specs.Slow.{length_of}
use Rattle.recogniser.specs.Step.{step_of}
use Rattle.frames.specs.Tray.{part_of}

-- The recogniser at the start of a WrFrontEnd's Field 5.
abbrev pub in_field5 : Recogniser
in_field5 = start_of Field5 0 4 0

abbrev pub is_frame_bit : FrameBit → ℕ
is_frame_bit None = 0
is_frame_bit (At place bit) = 1

-- How many frame bits are stored over so many cycles of ones, by a CNT.
abbrev pub stored_bits : ℕ → ℕ → Recogniser → ℕ
stored_bits zero cnt r = 0
stored_bits (suc n) cnt r = is_frame_bit (step_of r 1 cnt).event.frame + stored_bits n cnt (step_of r 1 cnt).next

-- "CNT FFFF gives a frame of 8,247 bits, value 00381FFF, 1,031 bytes", in parts: its cycles, the bits stored over them from Field 5's start, and their
-- bytes. The call that takes the last cycle and its record are a row of `FrameTable`; the bits that the record tells are in its `FrameParts`.
pub record LongestFrame : Type 0 where
  pub cycles : length_of 4 0xFFFF ≡ 65976
  pub stored : stored_bits 65976 0xFFFF in_field5 ≡ 8247
  pub bytes : length (part_of (replicate 8192 0) 8247) ≡ 1031

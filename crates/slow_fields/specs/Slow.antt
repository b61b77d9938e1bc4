-- The Slow commands, and the length of Field 5 (document 01, "Slow commands").
-- Assumes nothing.
use Rattle.std.specs.Prelude.{Bool, cond, ◌&&◌, ◌||◌, ℕ, ◌+◌, ◌*◌, ◌/◌, ◌%◌, ◌^◌, leb, eqb}
use Rattle.bits.specs.Bits.{shifted}

-- The values of Field 3 that name a command: 0 to 6 and 8 to 10. "Other values of Field 3 are a bad Slow."
abbrev pub is_slow : ℕ → Bool
is_slow command = leb command 6 || (leb 8 command && leb command 10)

-- WrFrontEnd, RdFrontEnd and WrReceiver carry frame bits.
abbrev pub is_frame : ℕ → Bool
is_frame command = leb 4 command && leb command 6

-- "D is CNT<15:3>, the data bits; C is CNT<2:0>, the control bits divided by 8."
abbrev pub data_bits : ℕ → ℕ
data_bits cnt = cnt / 8

abbrev pub control_bits : ℕ → ℕ
control_bits cnt = cnt % 8 * 8

-- CNT<12:0> × 8, the bits of a WrReceiver.
abbrev pub receiver_bits : ℕ → ℕ
receiver_bits cnt = cnt % 2 ^ 13 * 8

-- The table's column "Field 5, cycles". Front-end bits last eight cycles each.
abbrev pub length_of : ℕ → ℕ → ℕ
length_of command cnt =
    cond (leb command 1) 16
    (cond (leb command 3) 27
    (cond (leb command 5) (data_bits cnt * 8 + control_bits cnt * 8)
    (cond (eqb command 6) (receiver_bits cnt)
    (cond (eqb command 10) 4
    0))))

-- Field 5's number so far with one bit more. The bits of RdRegister and RdFifo are counted and not kept.
abbrev pub kept_of : ℕ → ℕ → ℕ → ℕ
kept_of command held bit = cond (eqb command 1 || eqb command 3) 0 (shifted 32 held bit)

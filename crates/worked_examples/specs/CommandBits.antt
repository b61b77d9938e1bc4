-- The commands as bits on the line, in numbers of their own (the chip paper, Tables 1-1 and 1-2), to write worked examples with.
-- Assumes nothing.
use Rattle.std.specs.Prelude.{cond, List, [], ◌∷◌, ◌++◌, ℕ, zero, suc, ◌+◌, ◌-◌, ◌/◌, ◌%◌, ◌^◌, eqb, length, replicate, take, drop}
use Prim.Native.Char.{code}
use Prim.Native.String as string
use Prim.Native.String.{String}

-- Bits as text; spaces part them for the eye.
abbrev pub line : String → List ℕ
line string.[] = []
line (string.◌∷◌ c text) = cond (eqb (code c) (code " ")) (line text) ((code c - code "0") ∷ line text)

-- A number in so many bits, highest first.
abbrev pub field : ℕ → ℕ → List ℕ
field zero n = []
field (suc width) n = n / 2 ^ width % 2 ∷ field width n

-- Bits packed into bytes, highest bit first, the last byte filled up with zeros.
abbrev pub byte_of : List ℕ → ℕ → ℕ
byte_of [] n = n
byte_of (bit ∷ bits) n = byte_of bits (n + n + bit)

abbrev pub packed_bytes : ℕ → List ℕ → List ℕ
packed_bytes zero bits = []
packed_bytes (suc n) bits = byte_of (take 8 (bits ++ replicate 8 0)) 0 ∷ packed_bytes n (drop 8 bits)

abbrev pub packed : List ℕ → List ℕ
packed bits = packed_bytes ((length bits + 7) / 8) bits

-- Table 1-1.
abbrev pub lv1 : List ℕ
lv1 = line "11101"

abbrev pub bcr : List ℕ
bcr = line "10110 0001"

abbrev pub ecr : List ℕ
ecr = line "10110 0010"

abbrev pub cal : List ℕ
cal = line "10110 0100"

abbrev pub sync : List ℕ
sync = line "10110 1000"

-- Table 1-2: the header, Field 3, Field 4 and Field 5.
abbrev pub slow : String → ℕ → List ℕ → List ℕ
slow field3 field4 field5 = line "10110 1011" ++ (line field3 ++ (field 4 field4 ++ field5))

abbrev pub wr_register : ℕ → ℕ → List ℕ
wr_register address bits = slow "0000" address (field 16 bits)

abbrev pub rd_register : ℕ → List ℕ
rd_register address = slow "0001" address (field 16 0)

abbrev pub wr_fifo : ℕ → List ℕ
wr_fifo word = slow "0010" 0 (field 27 word)

abbrev pub rd_fifo : ℕ → List ℕ
rd_fifo fifo = slow "0011" fifo (field 27 0)

abbrev pub wr_front_end : List ℕ → List ℕ
wr_front_end bits = slow "0100" 0 bits

abbrev pub rd_front_end : List ℕ → List ℕ
rd_front_end bits = slow "0101" 0 bits

abbrev pub wr_receiver : List ℕ → List ℕ
wr_receiver bits = slow "0110" 0 bits

abbrev pub en_data_take : List ℕ
en_data_take = slow "1000" 0 []

abbrev pub global_reset_mcc : List ℕ
global_reset_mcc = slow "1001" 0 []

abbrev pub global_reset_fe : ℕ → List ℕ
global_reset_fe sync_w = slow "1010" 0 (field 4 sync_w)

-- Front-end bits: "each bit for eight cycles".
abbrev pub eightfold : List ℕ → List ℕ
eightfold [] = []
eightfold (bit ∷ bits) = replicate 8 bit ++ eightfold bits

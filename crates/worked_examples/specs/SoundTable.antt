-- Which states are sound, number 3 where they are not (document 01, "A taking call", the paragraph below the refusal table; document 02, F-4 and
-- F-5).
-- Assumes nothing.
use Rattle.std.specs.Prelude.{List, [], ◌∷◌, ◌++◌, replicate}
use Rattle.worked_examples.specs.Cells.{Cell, mask, csr, feen, cnt, next, phase, shift, command, address, count, held, group, unsteady}
use Rattle.worked_examples.specs.Cells.{registers, run_mode, base, register, write_pointer, write_pointers, read_pointer, read_pointers}
use Rattle.worked_examples.specs.Cells.{earlier_time, earlier_kind}
use Rattle.worked_examples.specs.Example.{Row, row, done, refused}

-- A call that is offered no bits: it is 'done', or number 3.
abbrev sound : List Cell → Row
sound before = row before [] (done 0 0) [] []

abbrev unsound : List Cell → Row
unsound before = row before [] (refused 3) [] []

abbrev pub table : List Row
table =
    sound []
    -- "its plan would open": each of the three in the mask, and no two the same
    ∷ unsound (mask 0x007E ∷ [])
    ∷ unsound (mask 0x007B ∷ [])
    ∷ unsound (mask 0x005F ∷ [])
    ∷ unsound (csr 2 ∷ [])
    ∷ unsound (csr 5 ∷ [])
    ∷ unsound (feen 5 ∷ [])
    ∷ unsound (cnt 16 ∷ [])
    -- "the next cycle is at most 2^48 and the base not beyond it"
    ∷ sound (next 0x1000000000000 ∷ [])
    ∷ unsound (next 0x1000000000001 ∷ [])
    ∷ sound (next 5 ∷ base 5 ∷ [])
    ∷ unsound (next 5 ∷ base 6 ∷ [])
    -- document 02, F-5: "a sound state has that time", the earlier record's, "below its next cycle"; where there is none, nothing is asked
    ∷ sound (next 5 ∷ earlier_time 4 ∷ earlier_kind 0x01 ∷ [])
    ∷ unsound (next 5 ∷ earlier_time 5 ∷ earlier_kind 0x01 ∷ [])
    ∷ unsound (earlier_kind 0x01 ∷ [])
    ∷ sound (next 5 ∷ earlier_time 0xFFFFFFFFFFFFFFFF ∷ [])
    ∷ sound (next 0x1000000000000 ∷ earlier_time 0xFFFFFFFFFFFF ∷ earlier_kind 0xFF ∷ [])
    ∷ unsound (next 0x1000000000000 ∷ earlier_time 0xFFFFFFFFFFFFFFFF ∷ earlier_kind 0x18 ∷ [])
    -- "pointers are below 128"
    ∷ sound (write_pointers (replicate 16 127) ++ read_pointers (replicate 16 127))
    ∷ unsound (write_pointer 0 128 ∷ []) ∷ unsound (write_pointer 1 128 ∷ []) ∷ unsound (write_pointer 2 128 ∷ []) ∷ unsound (write_pointer 3 128 ∷ [])
    ∷ unsound (write_pointer 4 128 ∷ []) ∷ unsound (write_pointer 5 128 ∷ []) ∷ unsound (write_pointer 6 128 ∷ []) ∷ unsound (write_pointer 7 128 ∷ [])
    ∷ unsound (write_pointer 8 128 ∷ []) ∷ unsound (write_pointer 9 128 ∷ []) ∷ unsound (write_pointer 10 128 ∷ []) ∷ unsound (write_pointer 11 128 ∷ [])
    ∷ unsound (write_pointer 12 128 ∷ []) ∷ unsound (write_pointer 13 128 ∷ []) ∷ unsound (write_pointer 14 128 ∷ []) ∷ unsound (write_pointer 15 128 ∷ [])
    ∷ unsound (read_pointer 0 128 ∷ []) ∷ unsound (read_pointer 1 128 ∷ []) ∷ unsound (read_pointer 2 128 ∷ []) ∷ unsound (read_pointer 3 128 ∷ [])
    ∷ unsound (read_pointer 4 128 ∷ []) ∷ unsound (read_pointer 5 128 ∷ []) ∷ unsound (read_pointer 6 128 ∷ []) ∷ unsound (read_pointer 7 128 ∷ [])
    ∷ unsound (read_pointer 8 128 ∷ []) ∷ unsound (read_pointer 9 128 ∷ []) ∷ unsound (read_pointer 10 128 ∷ []) ∷ unsound (read_pointer 11 128 ∷ [])
    ∷ unsound (read_pointer 12 128 ∷ []) ∷ unsound (read_pointer 13 128 ∷ []) ∷ unsound (read_pointer 14 128 ∷ []) ∷ unsound (read_pointer 15 128 ∷ [])
    -- "missing registers hold 0"
    ∷ sound (registers (replicate 11 0xFFFF))
    ∷ unsound (register 11 1 ∷ []) ∷ unsound (register 12 1 ∷ []) ∷ unsound (register 13 1 ∷ []) ∷ unsound (register 14 1 ∷ [])
    ∷ unsound (register 15 0x8000 ∷ [])
    ∷ sound (mask 0x007F ∷ registers (replicate 7 0xFFFF))
    ∷ unsound (mask 0x007F ∷ register 7 1 ∷ []) ∷ unsound (mask 0x007F ∷ register 8 1 ∷ [])
    ∷ unsound (mask 0x007F ∷ register 9 1 ∷ []) ∷ unsound (mask 0x007F ∷ register 10 1 ∷ [])
    -- "RunMode is off inside a Slow command"
    ∷ sound (run_mode 1 ∷ [])
    ∷ sound (run_mode 1 ∷ phase 1 ∷ [])
    ∷ unsound (run_mode 1 ∷ phase 2 ∷ [])
    ∷ unsound (run_mode 1 ∷ phase 3 ∷ [])
    ∷ unsound (run_mode 1 ∷ phase 4 ∷ [])
    -- "window .. and the bits held so far fit their widths": the window
    ∷ sound (shift 0b11111 ∷ [])
    ∷ unsound (shift 0b100000 ∷ [])
    -- "the bits received of a body, Field 3, Field 4 .. are fewer than its length"
    ∷ sound (phase 1 ∷ count 3 ∷ shift 0b111 ∷ [])
    ∷ unsound (phase 1 ∷ count 3 ∷ shift 0b1000 ∷ [])
    ∷ unsound (phase 1 ∷ count 4 ∷ [])
    ∷ sound (phase 2 ∷ count 3 ∷ shift 0b111 ∷ [])
    ∷ unsound (phase 2 ∷ count 2 ∷ shift 0b100 ∷ [])
    ∷ unsound (phase 2 ∷ count 4 ∷ [])
    ∷ sound (phase 3 ∷ count 3 ∷ shift 0b111 ∷ command 15 ∷ [])
    ∷ unsound (phase 3 ∷ count 1 ∷ shift 0b10 ∷ [])
    ∷ unsound (phase 3 ∷ count 4 ∷ [])
    ∷ unsound (phase 3 ∷ command 16 ∷ [])
    -- Field 5 of WrRegister and RdRegister, 16 bits; WrFifo and RdFifo, 27; GlobalResetFE, 4. A read keeps no bits.
    ∷ sound (phase 4 ∷ command 0 ∷ address 15 ∷ count 15 ∷ held 0x7FFF ∷ [])
    ∷ unsound (phase 4 ∷ command 0 ∷ address 16 ∷ [])
    ∷ unsound (phase 4 ∷ command 0 ∷ count 15 ∷ held 0x8000 ∷ [])
    ∷ unsound (phase 4 ∷ command 0 ∷ count 16 ∷ [])
    ∷ sound (phase 4 ∷ command 1 ∷ count 15 ∷ held 0xFFFFFFFF ∷ [])
    ∷ unsound (phase 4 ∷ command 1 ∷ count 16 ∷ [])
    ∷ sound (phase 4 ∷ command 2 ∷ count 26 ∷ held 0x3FFFFFF ∷ [])
    ∷ unsound (phase 4 ∷ command 2 ∷ count 26 ∷ held 0x4000000 ∷ [])
    ∷ unsound (phase 4 ∷ command 2 ∷ count 27 ∷ [])
    ∷ sound (phase 4 ∷ command 3 ∷ count 26 ∷ held 0xFFFFFFFF ∷ [])
    ∷ unsound (phase 4 ∷ command 3 ∷ count 27 ∷ [])
    ∷ sound (phase 4 ∷ command 10 ∷ count 3 ∷ held 7 ∷ [])
    ∷ unsound (phase 4 ∷ command 10 ∷ count 3 ∷ held 8 ∷ [])
    ∷ unsound (phase 4 ∷ command 10 ∷ count 4 ∷ [])
    -- "the variable ones by the present CNT": 1 data bit is 8 cycles of a front-end frame, CNT<12:0> 1 is 8 of a WrReceiver
    ∷ sound (register 5 0x0008 ∷ phase 4 ∷ command 4 ∷ count 7 ∷ [])
    ∷ unsound (register 5 0x0008 ∷ phase 4 ∷ command 4 ∷ count 8 ∷ [])
    ∷ sound (register 5 0x0008 ∷ phase 4 ∷ command 5 ∷ count 7 ∷ [])
    ∷ unsound (register 5 0x0008 ∷ phase 4 ∷ command 5 ∷ count 8 ∷ [])
    ∷ sound (register 5 0xE001 ∷ phase 4 ∷ command 6 ∷ count 7 ∷ [])
    ∷ unsound (register 5 0xE001 ∷ phase 4 ∷ command 6 ∷ count 8 ∷ [])
    ∷ unsound (phase 4 ∷ command 4 ∷ [])
    -- document 02, F-4: "what is held of an unfinished group is what some bits, as many as its cycles received, would leave"; nothing else is asked of it
    ∷ sound (register 5 0x0008 ∷ phase 4 ∷ command 4 ∷ count 7 ∷ group 0b1111111 ∷ [])
    ∷ unsound (register 5 0x0008 ∷ phase 4 ∷ command 4 ∷ count 7 ∷ group 0b10000000 ∷ [])
    ∷ sound (register 5 0x0008 ∷ phase 4 ∷ command 4 ∷ count 1 ∷ group 0b1 ∷ [])
    ∷ unsound (register 5 0x0008 ∷ phase 4 ∷ command 4 ∷ count 1 ∷ group 0b10 ∷ [])
    ∷ unsound (register 5 0x0008 ∷ phase 4 ∷ command 4 ∷ count 0 ∷ group 0b1 ∷ [])
    ∷ sound (register 5 0x0010 ∷ phase 4 ∷ command 5 ∷ count 11 ∷ group 0b111 ∷ [])
    ∷ unsound (register 5 0x0010 ∷ phase 4 ∷ command 5 ∷ count 11 ∷ group 0b1000 ∷ [])
    ∷ sound (register 5 0x0010 ∷ phase 4 ∷ command 5 ∷ count 8 ∷ group 0 ∷ [])
    ∷ unsound (register 5 0x0010 ∷ phase 4 ∷ command 5 ∷ count 8 ∷ group 0b11111111 ∷ [])
    ∷ sound (register 5 0x0010 ∷ phase 4 ∷ command 4 ∷ count 0 ∷ unsteady 1 ∷ [])
    ∷ sound (register 5 0x0010 ∷ phase 4 ∷ command 4 ∷ count 8 ∷ unsteady 1 ∷ [])
    ∷ sound (register 5 0x0001 ∷ phase 4 ∷ command 6 ∷ count 7 ∷ group 0b11111111 ∷ unsteady 1 ∷ [])
    ∷ sound (phase 4 ∷ command 0 ∷ group 0b11111111 ∷ [])
    ∷ sound (phase 4 ∷ command 1 ∷ group 0b11111111 ∷ [])
    ∷ sound (phase 4 ∷ command 2 ∷ group 0b11111111 ∷ [])
    ∷ sound (phase 4 ∷ command 3 ∷ group 0b11111111 ∷ [])
    ∷ sound (phase 4 ∷ command 10 ∷ group 0b11111111 ∷ [])
    ∷ sound (group 0b11111111 ∷ [])
    ∷ sound (phase 1 ∷ group 0b11111111 ∷ [])
    ∷ sound (phase 2 ∷ group 0b11111111 ∷ [])
    ∷ sound (phase 3 ∷ group 0b11111111 ∷ [])
    -- "inside Field 5 the command is one that has it"
    ∷ unsound (phase 4 ∷ command 7 ∷ [])
    ∷ unsound (phase 4 ∷ command 8 ∷ [])
    ∷ unsound (phase 4 ∷ command 9 ∷ [])
    ∷ unsound (phase 4 ∷ command 11 ∷ [])
    ∷ unsound (phase 4 ∷ command 12 ∷ [])
    ∷ unsound (phase 4 ∷ command 13 ∷ [])
    ∷ unsound (phase 4 ∷ command 14 ∷ [])
    ∷ unsound (phase 4 ∷ command 15 ∷ [])
    ∷ []

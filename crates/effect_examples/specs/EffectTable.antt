-- What each command changes, and that it changes nothing else of the controller, whose numbers are not 0 ahead (document 01, "What commands do").
-- Assumes nothing.
use Rattle.std.specs.Prelude.{List, [], ◌∷◌, ◌++◌, ℕ, replicate}
use Rattle.worked_examples.specs.CommandBits.{line, field, eightfold, lv1, bcr, ecr, cal, sync, slow, wr_register, rd_register, wr_fifo, rd_fifo}
use Rattle.worked_examples.specs.Cells as cell
use Rattle.worked_examples.specs.Cells.{Cell, words_from, write_pointers, read_pointers, next, word}
use Rattle.worked_examples.specs.Example.{Row, row, done, frame}

-- All that the controller holds: RunMode, L1ID and base; WLV1, WFST and WSLW; 16 registers; 16 write and 16 read pointers.
abbrev controller : List ℕ → List ℕ → List ℕ → List ℕ → List ℕ → List Cell
controller counters warnings registers writes reads =
    words_from 14 (counters ++ warnings) ++ (cell.registers registers ++ (write_pointers writes ++ read_pointers reads))

-- Registers 7 to 15 of the default plan: those that are missing, 11 to 15, hold 0.
abbrev from_seven : List ℕ
from_seven = 0x7777 ∷ 0x8888 ∷ 0x9999 ∷ 0xAAAA ∷ replicate 5 0

-- All 16: CSR lets triggers be sent, FEEN is FIFOs 1 and 15, CNT is 8 control bits, or 8 bits of a WrReceiver.
abbrev regs : List ℕ
regs = 0x8081 ∷ 0x1111 ∷ 0x8002 ∷ 0x3333 ∷ 0x4444 ∷ 0x0001 ∷ 0x6666 ∷ from_seven

abbrev writes : List ℕ
writes = 11 ∷ 12 ∷ 13 ∷ 14 ∷ 15 ∷ 16 ∷ 17 ∷ 18 ∷ 19 ∷ 20 ∷ 21 ∷ 22 ∷ 23 ∷ 24 ∷ 25 ∷ 26 ∷ []

abbrev reads : List ℕ
reads = 31 ∷ 32 ∷ 33 ∷ 34 ∷ 35 ∷ 36 ∷ 37 ∷ 38 ∷ 39 ∷ 40 ∷ 41 ∷ 42 ∷ 43 ∷ 44 ∷ 45 ∷ 46 ∷ []

abbrev zeros : List ℕ
zeros = replicate 16 0

abbrev ones : List ℕ
ones = 1 ∷ 1 ∷ 1 ∷ []

-- In RunMode and out of it: L1ID 9, base 10 hexadecimal.
abbrev running : List ℕ
running = 1 ∷ 9 ∷ 0x10 ∷ []

abbrev stopped : List ℕ
stopped = 0 ∷ 9 ∷ 0x10 ∷ []

-- FIFO words that no row changes: where FIFO 0 would be written and read next, and the last one of FIFO 15.
abbrev kept : List Cell
kept = word 0 11 0x1234567 ∷ word 0 31 0x2345678 ∷ word 15 127 0x7FFFFFF ∷ []

-- From cycle 100, hexadecimal, with these numbers ahead: the line, the answer, the records, and all that the controller holds afterwards.
abbrev from : List ℕ → List ℕ → List ℕ → List ℕ → List ℕ → List Cell → Row
from counters warnings line answer words after =
    row (next 0x100 ∷ (kept ++ controller counters warnings regs writes reads)) line answer words (kept ++ after)

abbrev pub table : List Row
table =
    -- LV1: L1ID alone; BCR: the base alone; ECR: L1ID and all pointers
    from running ones lv1 (done 5 1) (0x1040105 ∷ 0x09F4 ∷ []) (controller (1 ∷ 10 ∷ 0x10 ∷ []) ones regs writes reads)
    ∷ from running ones bcr (done 9 1) (0x1081101 ∷ 0 ∷ []) (controller (1 ∷ 9 ∷ 0x108 ∷ []) ones regs writes reads)
    ∷ from running ones ecr (done 9 1) (0x1081201 ∷ 0 ∷ []) (controller (1 ∷ 0 ∷ 0x10 ∷ []) ones regs zeros zeros)
    -- CAL and SYNC: nothing
    ∷ from running ones cal (done 9 1) (0x1081401 ∷ 0 ∷ []) (controller running ones regs writes reads)
    ∷ from running ones sync (done 9 1) (0x1081801 ∷ 0 ∷ []) (controller running ones regs writes reads)
    -- out of RunMode: nothing; ECR and CAL are too close to the one before, flag 20
    ∷ from stopped ones (lv1 ++ (bcr ++ (ecr ++ (cal ++ sync)))) (done 41 5)
    (0x1040100 ∷ 0 ∷ 0x10D1100 ∷ 0 ∷ 0x1161220 ∷ 0 ∷ 0x11F1420 ∷ 0 ∷ 0x1281800 ∷ 0 ∷ [])
    (controller stopped ones regs writes reads)
    -- an LV1 with flip, a bad Fast and a bad Slow: each its own warning, beside the others
    ∷ from running (0 ∷ 1 ∷ 1 ∷ []) (line "11100") (done 5 1) (0x1040107 ∷ 0x000509F4 ∷ []) (controller (1 ∷ 10 ∷ 0x10 ∷ []) ones regs writes reads)
    ∷ from stopped (0 ∷ 1 ∷ 1 ∷ []) (line "11100") (done 5 1) (0x1040102 ∷ 0x00050000 ∷ []) (controller stopped ones regs writes reads)
    ∷ from running (1 ∷ 0 ∷ 1 ∷ []) (line "10110 0000") (done 9 1) (0x1081F00 ∷ 0 ∷ []) (controller running ones regs writes reads)
    ∷ from running (1 ∷ 1 ∷ 0 ∷ []) (slow "1111" 0 []) (done 17 1) (0x1102F00 ∷ 15 ∷ []) (controller stopped ones regs writes reads)
    ∷ from running (0 ∷ 0 ∷ 0 ∷ []) (line "11100") (done 5 1) (0x1040107 ∷ 0x000509F4 ∷ [])
    (controller (1 ∷ 10 ∷ 0x10 ∷ []) (1 ∷ 0 ∷ 0 ∷ []) regs writes reads)
    ∷ from running (0 ∷ 0 ∷ 0 ∷ []) (line "10110 0000") (done 9 1) (0x1081F00 ∷ 0 ∷ []) (controller running (0 ∷ 1 ∷ 0 ∷ []) regs writes reads)
    ∷ from running (0 ∷ 0 ∷ 0 ∷ []) (slow "1111" 0 []) (done 17 1) (0x1102F00 ∷ 15 ∷ []) (controller stopped (0 ∷ 0 ∷ 1 ∷ []) regs writes reads)
    -- EnDataTake: RunMode; GlobalResetFE: nothing; GlobalResetMCC: all, and the base is its own time. Field 4 does not matter.
    ∷ from stopped ones (slow "1000" 0b1001 []) (done 17 1) (0x1102801 ∷ 0 ∷ []) (controller running ones regs writes reads)
    ∷ from running ones (slow "1000" 0 []) (done 17 1) (0x1102801 ∷ 0 ∷ []) (controller running ones regs writes reads)
    ∷ from running ones (slow "1010" 0b1111 (field 4 5)) (done 21 1) (0x1142A01 ∷ 11 ∷ []) (controller stopped ones regs writes reads)
    ∷ from stopped ones (slow "1010" 0b0110 (field 4 5)) (done 21 1) (0x1142A01 ∷ 11 ∷ []) (controller stopped ones regs writes reads)
    ∷ from running ones (slow "1001" 0 []) (done 17 1) (0x1102901 ∷ 0 ∷ []) (controller (0 ∷ 0 ∷ 0x110 ∷ []) (0 ∷ 0 ∷ 0 ∷ []) zeros zeros zeros)
    ∷ from stopped ones (slow "1001" 0b1111 []) (done 17 1) (0x1102901 ∷ 0 ∷ []) (controller (0 ∷ 0 ∷ 0x110 ∷ []) (0 ∷ 0 ∷ 0 ∷ []) zeros zeros zeros)
    -- WrRegister: its register alone, of 7 to 10 too; to CSR it leaves the warnings; to a missing address, and RdRegister: nothing
    ∷ from running ones (wr_register 3 0xABCD) (done 33 1) (0x1202001 ∷ 0x0003ABCD ∷ [])
    (controller stopped ones (0x8081 ∷ 0x1111 ∷ 0x8002 ∷ 0xABCD ∷ 0x4444 ∷ 0x0001 ∷ 0x6666 ∷ from_seven) writes reads)
    ∷ from running ones (wr_register 0 0) (done 33 1) (0x1202001 ∷ 0 ∷ [])
    (controller stopped ones (0 ∷ 0x1111 ∷ 0x8002 ∷ 0x3333 ∷ 0x4444 ∷ 0x0001 ∷ 0x6666 ∷ from_seven) writes reads)
    ∷ from running ones (wr_register 9 0xABCD) (done 33 1) (0x1202001 ∷ 0x0009ABCD ∷ [])
    (controller stopped ones
    (0x8081 ∷ 0x1111 ∷ 0x8002 ∷ 0x3333 ∷ 0x4444 ∷ 0x0001 ∷ 0x6666 ∷ 0x7777 ∷ 0x8888 ∷ 0xABCD ∷ 0xAAAA ∷ replicate 5 0)
    writes reads)
    ∷ from running ones (wr_register 12 0xABCD) (done 33 1) (0x1202008 ∷ 0x000CABCD ∷ []) (controller stopped ones regs writes reads)
    ∷ from running ones (rd_register 3) (done 33 1) (0x1202101 ∷ 0x00033333 ∷ []) (controller stopped ones regs writes reads)
    -- WrFifo: the write pointers of FIFOs 1 and 15; RdFifo: the read pointer of its FIFO
    ∷ from running ones (wr_fifo 7) (done 44 1) (0x12B2201 ∷ 7 ∷ [])
    (controller stopped ones regs (11 ∷ 13 ∷ 13 ∷ 14 ∷ 15 ∷ 16 ∷ 17 ∷ 18 ∷ 19 ∷ 20 ∷ 21 ∷ 22 ∷ 23 ∷ 24 ∷ 25 ∷ 27 ∷ []) reads)
    ∷ from running ones (rd_fifo 0) (done 44 1) (0x12B2301 ∷ 0x02345678 ∷ [])
    (controller stopped ones regs writes (32 ∷ 32 ∷ 33 ∷ 34 ∷ 35 ∷ 36 ∷ 37 ∷ 38 ∷ 39 ∷ 40 ∷ 41 ∷ 42 ∷ 43 ∷ 44 ∷ 45 ∷ 46 ∷ []))
    -- frame commands: nothing; Field 4 does not matter
    ∷ from running ones (slow "0100" 0b1111 (eightfold (line "10100101"))) (frame 81 1) (0x1502401 ∷ 0x00080000 ∷ [])
    (controller stopped ones regs writes reads)
    ∷ from running ones (slow "0101" 0b1001 (eightfold (line "10100101"))) (frame 81 1) (0x1502501 ∷ 0x00080000 ∷ [])
    (controller stopped ones regs writes reads)
    ∷ from running ones (slow "0110" 0b0110 (line "10100101")) (frame 25 1) (0x1182601 ∷ 8 ∷ []) (controller stopped ones regs writes reads)
    ∷ []

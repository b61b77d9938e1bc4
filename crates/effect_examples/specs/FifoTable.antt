-- The receiver FIFOs: "16 FIFOs of 128 words of 27 bits" (document 01, "What commands do" and "A record").
-- What ECR and GlobalResetMCC do to their pointers is in `EffectTable`.
-- Assumes nothing.
use Rattle.std.specs.Prelude.{List, [], ◌∷◌, ◌++◌, replicate}
use Rattle.worked_examples.specs.CommandBits.{field, slow, wr_register, wr_fifo, rd_fifo}
use Rattle.worked_examples.specs.Cells.{register, write_pointer, write_pointers, read_pointer, read_pointers, word}
use Rattle.worked_examples.specs.Example.{Row, row, done}

-- FEEN is register 2.
abbrev pub table : List Row
table =
    -- WrFifo, kind 22, "each FIFO whose bit in FEEN is 1": 8001 is FIFOs 0 and 15; the value is "the word"
    row [] (wr_register 2 0x8001 ++ wr_fifo 0x7FFFFFF) (done 77 2)
    (0x202001 ∷ 0x00028001 ∷ 0x4C2201 ∷ 0x07FFFFFF ∷ [])
    (word 0 0 0x7FFFFFF ∷ word 1 0 0 ∷ word 14 0 0 ∷ word 15 0 0x7FFFFFF
    ∷ write_pointer 0 1 ∷ write_pointer 1 0 ∷ write_pointer 14 0 ∷ write_pointer 15 1 ∷ read_pointer 0 0 ∷ read_pointer 15 0 ∷ [])
    -- 0006 is FIFOs 1 and 2, each at its own write pointer
    ∷ row (register 2 0x0006 ∷ write_pointer 2 9 ∷ []) (wr_fifo 0x1234567) (done 44 1)
    (0x2B2201 ∷ 0x01234567 ∷ [])
    (word 0 0 0 ∷ word 1 0 0x1234567 ∷ word 2 0 0 ∷ word 2 9 0x1234567 ∷ word 3 0 0
    ∷ write_pointer 0 0 ∷ write_pointer 1 1 ∷ write_pointer 2 10 ∷ write_pointer 3 0 ∷ [])
    -- FEEN FFFF, all 16 FIFOs, with the write pointer of FIFO n at n; AAAA, those with an odd number; 5555, those with an even one
    ∷ row (register 2 0xFFFF ∷ write_pointers (0 ∷ 1 ∷ 2 ∷ 3 ∷ 4 ∷ 5 ∷ 6 ∷ 7 ∷ 8 ∷ 9 ∷ 10 ∷ 11 ∷ 12 ∷ 13 ∷ 14 ∷ 15 ∷ [])) (wr_fifo 0x7654321) (done 44 1)
    (0x2B2201 ∷ 0x07654321 ∷ [])
    (word 0 0 0x7654321 ∷ word 1 1 0x7654321 ∷ word 2 2 0x7654321 ∷ word 3 3 0x7654321 ∷ word 4 4 0x7654321 ∷ word 5 5 0x7654321
    ∷ word 6 6 0x7654321 ∷ word 7 7 0x7654321 ∷ word 8 8 0x7654321 ∷ word 9 9 0x7654321 ∷ word 10 10 0x7654321 ∷ word 11 11 0x7654321
    ∷ word 12 12 0x7654321 ∷ word 13 13 0x7654321 ∷ word 14 14 0x7654321 ∷ word 15 15 0x7654321
    ∷ (write_pointers (1 ∷ 2 ∷ 3 ∷ 4 ∷ 5 ∷ 6 ∷ 7 ∷ 8 ∷ 9 ∷ 10 ∷ 11 ∷ 12 ∷ 13 ∷ 14 ∷ 15 ∷ 16 ∷ []) ++ read_pointers (replicate 16 0)))
    ∷ row (register 2 0xAAAA ∷ write_pointers (0 ∷ 1 ∷ 2 ∷ 3 ∷ 4 ∷ 5 ∷ 6 ∷ 7 ∷ 8 ∷ 9 ∷ 10 ∷ 11 ∷ 12 ∷ 13 ∷ 14 ∷ 15 ∷ [])) (wr_fifo 0x7654321) (done 44 1)
    (0x2B2201 ∷ 0x07654321 ∷ [])
    (word 0 0 0 ∷ word 1 1 0x7654321 ∷ word 2 2 0 ∷ word 3 3 0x7654321 ∷ word 4 4 0 ∷ word 5 5 0x7654321
    ∷ word 6 6 0 ∷ word 7 7 0x7654321 ∷ word 8 8 0 ∷ word 9 9 0x7654321 ∷ word 10 10 0 ∷ word 11 11 0x7654321
    ∷ word 12 12 0 ∷ word 13 13 0x7654321 ∷ word 14 14 0 ∷ word 15 15 0x7654321
    ∷ (write_pointers (0 ∷ 2 ∷ 2 ∷ 4 ∷ 4 ∷ 6 ∷ 6 ∷ 8 ∷ 8 ∷ 10 ∷ 10 ∷ 12 ∷ 12 ∷ 14 ∷ 14 ∷ 16 ∷ []) ++ read_pointers (replicate 16 0)))
    ∷ row (register 2 0x5555 ∷ write_pointers (0 ∷ 1 ∷ 2 ∷ 3 ∷ 4 ∷ 5 ∷ 6 ∷ 7 ∷ 8 ∷ 9 ∷ 10 ∷ 11 ∷ 12 ∷ 13 ∷ 14 ∷ 15 ∷ [])) (wr_fifo 0x7654321) (done 44 1)
    (0x2B2201 ∷ 0x07654321 ∷ [])
    (word 0 0 0x7654321 ∷ word 1 1 0 ∷ word 2 2 0x7654321 ∷ word 3 3 0 ∷ word 4 4 0x7654321 ∷ word 5 5 0
    ∷ word 6 6 0x7654321 ∷ word 7 7 0 ∷ word 8 8 0x7654321 ∷ word 9 9 0 ∷ word 10 10 0x7654321 ∷ word 11 11 0
    ∷ word 12 12 0x7654321 ∷ word 13 13 0 ∷ word 14 14 0x7654321 ∷ word 15 15 0
    ∷ (write_pointers (1 ∷ 1 ∷ 3 ∷ 3 ∷ 5 ∷ 5 ∷ 7 ∷ 7 ∷ 9 ∷ 9 ∷ 11 ∷ 11 ∷ 13 ∷ 13 ∷ 15 ∷ 15 ∷ []) ++ read_pointers (replicate 16 0)))
    -- FEEN 0: acted on, and nothing is written; Field 4 names no FIFO
    ∷ row [] (slow "0010" 4 (field 27 5)) (done 44 1) (0x2B2201 ∷ 5 ∷ []) (word 0 0 0 ∷ word 4 0 0 ∷ write_pointer 0 0 ∷ write_pointer 4 0 ∷ [])
    -- "moves that pointer on, modulo 128": FIFO 0 from word 63 on, FIFO 15 from word 126 on
    ∷ row (register 2 0x8001 ∷ write_pointer 0 63 ∷ write_pointer 15 126 ∷ []) (wr_fifo 1 ++ (wr_fifo 2 ++ wr_fifo 3)) (done 132 3)
    (0x2B2201 ∷ 1 ∷ 0x572201 ∷ 2 ∷ 0x832201 ∷ 3 ∷ [])
    (word 0 63 1 ∷ word 0 64 2 ∷ word 0 65 3 ∷ write_pointer 0 66 ∷ word 15 126 1 ∷ word 15 127 2 ∷ word 15 0 3 ∷ write_pointer 15 1 ∷ [])
    -- RdFifo, kind 23, "address × 2^27 + word": the words come in the order in which they were written; FEEN does not matter
    ∷ row (register 2 0x0010 ∷ []) (wr_fifo 0x0000001 ++ (wr_fifo 0x4000000 ++ (wr_register 2 0 ++ (rd_fifo 4 ++ rd_fifo 4)))) (done 209 5)
    (0x2B2201 ∷ 0x00000001 ∷ 0x572201 ∷ 0x04000000 ∷ 0x782001 ∷ 0x00020000 ∷ 0xA42301 ∷ 0x20000001 ∷ 0xD02301 ∷ 0x24000000 ∷ [])
    (write_pointer 4 2 ∷ read_pointer 4 2 ∷ [])
    -- "takes the low 27 bits at the read pointer of FIFO Field 4"; the bits of Field 5 are not kept
    ∷ row (word 15 3 0xFFFFFFFF ∷ read_pointer 15 3 ∷ []) (slow "0011" 15 (field 27 0x5555555)) (done 44 1)
    (0x2B2301 ∷ 0x7FFFFFFF ∷ [])
    (word 15 3 0xFFFFFFFF ∷ read_pointer 15 4 ∷ read_pointer 14 0 ∷ write_pointer 15 0 ∷ [])
    ∷ row (word 7 126 6 ∷ word 7 127 7 ∷ word 7 0 8 ∷ read_pointer 7 126 ∷ []) (rd_fifo 7 ++ (rd_fifo 7 ++ rd_fifo 7)) (done 132 3)
    (0x2B2301 ∷ 0x38000006 ∷ 0x572301 ∷ 0x38000007 ∷ 0x832301 ∷ 0x38000008 ∷ [])
    (read_pointer 7 1 ∷ [])
    ∷ row (word 0 63 5 ∷ word 0 64 6 ∷ read_pointer 0 63 ∷ []) (rd_fifo 0 ++ rd_fifo 0) (done 88 2)
    (0x2B2301 ∷ 5 ∷ 0x572301 ∷ 6 ∷ [])
    (read_pointer 0 65 ∷ [])
    -- each of the 16 FIFOs once, with the read pointer of FIFO n at 127 - n
    ∷ row (word 0 127 0x10 ∷ word 1 126 0x11 ∷ word 2 125 0x12 ∷ word 3 124 0x13 ∷ word 4 123 0x14 ∷ word 5 122 0x15
    ∷ word 6 121 0x16 ∷ word 7 120 0x17 ∷ word 8 119 0x18 ∷ word 9 118 0x19 ∷ word 10 117 0x1A ∷ word 11 116 0x1B
    ∷ word 12 115 0x1C ∷ word 13 114 0x1D ∷ word 14 113 0x1E ∷ word 15 112 0x1F
    ∷ read_pointers (127 ∷ 126 ∷ 125 ∷ 124 ∷ 123 ∷ 122 ∷ 121 ∷ 120 ∷ 119 ∷ 118 ∷ 117 ∷ 116 ∷ 115 ∷ 114 ∷ 113 ∷ 112 ∷ []))
    (rd_fifo 0 ++ (rd_fifo 1 ++ (rd_fifo 2 ++ (rd_fifo 3 ++ (rd_fifo 4 ++ (rd_fifo 5 ++ (rd_fifo 6 ++
    (rd_fifo 7 ++ (rd_fifo 8 ++ (rd_fifo 9 ++ (rd_fifo 10 ++ (rd_fifo 11 ++ (rd_fifo 12 ++ (rd_fifo 13 ++ (rd_fifo 14 ++ rd_fifo 15)))))))))))))))
    (done 704 16)
    (0x2B2301 ∷ 0x00000010 ∷ 0x572301 ∷ 0x08000011 ∷ 0x832301 ∷ 0x10000012 ∷ 0xAF2301 ∷ 0x18000013 ∷ 0xDB2301 ∷ 0x20000014 ∷ 0x1072301 ∷ 0x28000015
    ∷ 0x1332301 ∷ 0x30000016 ∷ 0x15F2301 ∷ 0x38000017 ∷ 0x18B2301 ∷ 0x40000018 ∷ 0x1B72301 ∷ 0x48000019 ∷ 0x1E32301 ∷ 0x5000001A ∷ 0x20F2301 ∷ 0x5800001B
    ∷ 0x23B2301 ∷ 0x6000001C ∷ 0x2672301 ∷ 0x6800001D ∷ 0x2932301 ∷ 0x7000001E ∷ 0x2BF2301 ∷ 0x7800001F ∷ [])
    (write_pointers (replicate 16 0) ++ read_pointers (0 ∷ 127 ∷ 126 ∷ 125 ∷ 124 ∷ 123 ∷ 122 ∷ 121 ∷ 120 ∷ 119 ∷ 118 ∷ 117 ∷ 116 ∷ 115 ∷ 114 ∷ 113 ∷ []))
    ∷ []

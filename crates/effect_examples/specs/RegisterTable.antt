-- Registers, the warnings in CSR, and the register plan (document 01, "What commands do", "The register plan" and "A record").
-- Assumes nothing.
use Rattle.std.specs.Prelude.{List, [], ◌∷◌, ◌++◌}
use Rattle.worked_examples.specs.CommandBits.{line, field, slow, wr_register, rd_register, global_reset_mcc}
use Rattle.worked_examples.specs.Cells.{Cell, registers, mask, csr, feen, cnt, wlv1, wfst, wslw, register}
use Rattle.worked_examples.specs.Example.{Row, row, done}

-- All 16 registers with numbers.
abbrev all_sixteen : List Cell
all_sixteen =
    registers
    (0x10A0 ∷ 0x10A1 ∷ 0x10A2 ∷ 0x10A3 ∷ 0x10A4 ∷ 0x10A5 ∷ 0x10A6 ∷ 0x10A7
    ∷ 0x10A8 ∷ 0x10A9 ∷ 0x10AA ∷ 0x10AB ∷ 0x10AC ∷ 0x10AD ∷ 0x10AE ∷ 0x10AF ∷ [])

-- Registers 7 to 10 with numbers.
abbrev seven_to_ten : List Cell
seven_to_ten = register 7 0x1234 ∷ register 8 0x2345 ∷ register 9 0x3456 ∷ register 10 0x4567 ∷ []

-- The default plan is mask 07FF, CSR 0, FEEN 2, CNT 5 (document 02, F-9).
abbrev pub table : List Row
table =
    -- WrRegister, kind 20, "address × 65,536 + the 16 bits that arrived"; RdRegister, kind 21, those that "were read"
    row [] (wr_register 1 0x1234 ++ rd_register 1) (done 66 2)
    (0x202001 ∷ 0x00011234 ∷ 0x412101 ∷ 0x00011234 ∷ [])
    (register 1 0x1234 ∷ register 0 0 ∷ register 2 0 ∷ [])
    ∷ row [] (wr_register 6 0xFFFF ++ rd_register 6) (done 66 2)
    (0x202001 ∷ 0x0006FFFF ∷ 0x412101 ∷ 0x0006FFFF ∷ [])
    (register 6 0xFFFF ∷ [])
    -- the bits of Field 5 are no commands (1110 1110 1110 1110 has LV1 in it), and RdRegister keeps none of them
    ∷ row (register 3 0x00FF ∷ []) (wr_register 1 0xEEEE ++ slow "0001" 3 (field 16 0xEEEE)) (done 66 2)
    (0x202001 ∷ 0x0001EEEE ∷ 0x412101 ∷ 0x000300FF ∷ [])
    (register 1 0xEEEE ∷ register 3 0x00FF ∷ [])
    -- "Most buyers now have registers 7 to 10" (document 02, F-9)
    ∷ row [] (wr_register 7 0x1234 ++ (wr_register 8 0x2345 ++ (wr_register 9 0x3456 ++ wr_register 10 0x4567))) (done 132 4)
    (0x202001 ∷ 0x00071234 ∷ 0x412001 ∷ 0x00082345 ∷ 0x622001 ∷ 0x00093456 ∷ 0x832001 ∷ 0x000A4567 ∷ [])
    seven_to_ten
    ∷ row seven_to_ten (rd_register 7 ++ (rd_register 8 ++ (rd_register 9 ++ rd_register 10))) (done 132 4)
    (0x202101 ∷ 0x00071234 ∷ 0x412101 ∷ 0x00082345 ∷ 0x622101 ∷ 0x00093456 ∷ 0x832101 ∷ 0x000A4567 ∷ [])
    []
    -- "WrRegister to a missing address changes nothing; RdRegister of one gives 0": flags 08 alone, for 11 and 15; with 007F by name, for 7 and 10
    ∷ row [] (wr_register 11 0x1234 ++ rd_register 11) (done 66 2)
    (0x202008 ∷ 0x000B1234 ∷ 0x412108 ∷ 0x000B0000 ∷ [])
    (register 11 0 ∷ [])
    ∷ row (mask 0x007F ∷ []) (wr_register 7 0x1234 ++ rd_register 7) (done 66 2)
    (0x202008 ∷ 0x00071234 ∷ 0x412108 ∷ 0x00070000 ∷ [])
    (register 7 0 ∷ [])
    ∷ row (mask 0x007F ∷ []) (wr_register 10 0x1234 ++ rd_register 10) (done 66 2)
    (0x202008 ∷ 0x000A1234 ∷ 0x412108 ∷ 0x000A0000 ∷ [])
    (register 10 0 ∷ [])
    ∷ row [] (wr_register 15 0xFFFF ++ rd_register 15) (done 66 2)
    (0x202008 ∷ 0x000FFFFF ∷ 0x412108 ∷ 0x000F0000 ∷ [])
    (register 15 0 ∷ [])
    -- another plan, with bit n for address n: 0, 5, 10 and 15 exist and 1 does not
    ∷ row (mask 0x8421 ∷ csr 15 ∷ feen 10 ∷ cnt 5 ∷ []) (wr_register 0 0xFFFF ++ (wr_register 1 0xFFFF ++ (wr_register 15 0xFFFF ++ rd_register 15)))
    (done 132 4)
    (0x202001 ∷ 0x0000FFFF ∷ 0x412008 ∷ 0x0001FFFF ∷ 0x622001 ∷ 0x000FFFFF ∷ 0x832101 ∷ 0x000FF8FF ∷ [])
    (register 0 0xFFFF ∷ register 1 0 ∷ register 15 0xF8FF ∷ [])
    -- mask FFFF: each of the 16 addresses written once, and each read once
    ∷ row (mask 0xFFFF ∷ [])
    (wr_register 0 0x10A0 ++ (wr_register 1 0x10A1 ++ (wr_register 2 0x10A2 ++ (wr_register 3 0x10A3 ++
    (wr_register 4 0x10A4 ++ (wr_register 5 0x10A5 ++ (wr_register 6 0x10A6 ++ (wr_register 7 0x10A7 ++
    (wr_register 8 0x10A8 ++ (wr_register 9 0x10A9 ++ (wr_register 10 0x10AA ++ (wr_register 11 0x10AB ++
    (wr_register 12 0x10AC ++ (wr_register 13 0x10AD ++ (wr_register 14 0x10AE ++ wr_register 15 0x10AF)))))))))))))))
    (done 528 16)
    (0x202001 ∷ 0x000010A0 ∷ 0x412001 ∷ 0x000110A1 ∷ 0x622001 ∷ 0x000210A2 ∷ 0x832001 ∷ 0x000310A3 ∷ 0xA42001 ∷ 0x000410A4 ∷ 0xC52001 ∷ 0x000510A5
    ∷ 0xE62001 ∷ 0x000610A6 ∷ 0x1072001 ∷ 0x000710A7 ∷ 0x1282001 ∷ 0x000810A8 ∷ 0x1492001 ∷ 0x000910A9 ∷ 0x16A2001 ∷ 0x000A10AA ∷ 0x18B2001 ∷ 0x000B10AB
    ∷ 0x1AC2001 ∷ 0x000C10AC ∷ 0x1CD2001 ∷ 0x000D10AD ∷ 0x1EE2001 ∷ 0x000E10AE ∷ 0x20F2001 ∷ 0x000F10AF ∷ [])
    all_sixteen
    ∷ row (mask 0xFFFF ∷ all_sixteen)
    (rd_register 0 ++ (rd_register 1 ++ (rd_register 2 ++ (rd_register 3 ++ (rd_register 4 ++ (rd_register 5 ++
    (rd_register 6 ++ (rd_register 7 ++ (rd_register 8 ++ (rd_register 9 ++ (rd_register 10 ++ (rd_register 11 ++
    (rd_register 12 ++ (rd_register 13 ++ (rd_register 14 ++ rd_register 15)))))))))))))))
    (done 528 16)
    (0x202101 ∷ 0x000010A0 ∷ 0x412101 ∷ 0x000110A1 ∷ 0x622101 ∷ 0x000210A2 ∷ 0x832101 ∷ 0x000310A3 ∷ 0xA42101 ∷ 0x000410A4 ∷ 0xC52101 ∷ 0x000510A5
    ∷ 0xE62101 ∷ 0x000610A6 ∷ 0x1072101 ∷ 0x000710A7 ∷ 0x1282101 ∷ 0x000810A8 ∷ 0x1492101 ∷ 0x000910A9 ∷ 0x16A2101 ∷ 0x000A10AA ∷ 0x18B2101 ∷ 0x000B10AB
    ∷ 0x1AC2101 ∷ 0x000C10AC ∷ 0x1CD2101 ∷ 0x000D10AD ∷ 0x1EE2101 ∷ 0x000E10AE ∷ 0x20F2101 ∷ 0x000F10AF ∷ [])
    []
    -- CSR: "bits 8, 9, 10 .. are not writable"
    ∷ row [] (wr_register 0 0xFFFF ++ rd_register 0) (done 66 2)
    (0x202001 ∷ 0x0000FFFF ∷ 0x412101 ∷ 0x0000F8FF ∷ [])
    (register 0 0xF8FF ∷ wlv1 0 ∷ wfst 0 ∷ wslw 0 ∷ [])
    ∷ row (wlv1 1 ∷ []) (wr_register 0 0x0000 ++ rd_register 0) (done 66 2)
    (0x202001 ∷ 0x00000000 ∷ 0x412101 ∷ 0x00000100 ∷ [])
    (register 0 0 ∷ wlv1 1 ∷ [])
    -- "WLV1 (LV1 with flip)" is bit 8, "WFST (bad Fast)" bit 9, "WSLW (bad Slow)" bit 10
    ∷ row [] (line "11100" ++ rd_register 0) (done 38 2)
    (0x040102 ∷ 0x00050000 ∷ 0x252101 ∷ 0x00000100 ∷ [])
    (wlv1 1 ∷ wfst 0 ∷ wslw 0 ∷ [])
    ∷ row [] (line "10110 0000" ++ rd_register 0) (done 42 2)
    (0x081F00 ∷ 0 ∷ 0x292101 ∷ 0x00000200 ∷ [])
    (wlv1 0 ∷ wfst 1 ∷ wslw 0 ∷ [])
    ∷ row [] (slow "0111" 0 [] ++ rd_register 0) (done 50 2)
    (0x102F00 ∷ 7 ∷ 0x312101 ∷ 0x00000400 ∷ [])
    (wlv1 0 ∷ wfst 0 ∷ wslw 1 ∷ [])
    -- all three over a CSR of ones; and no warning over a CSR that stands with those bits set
    ∷ row (register 0 0xF8FF ∷ wlv1 1 ∷ wfst 1 ∷ wslw 1 ∷ []) (rd_register 0) (done 33 1) (0x202101 ∷ 0x0000FFFF ∷ []) []
    ∷ row (register 0 0x0700 ∷ []) (rd_register 0) (done 33 1) (0x202101 ∷ 0 ∷ []) []
    -- "fall at GlobalResetMCC", which "sets registers .. to 0"
    ∷ row (register 0 0xF8FF ∷ register 5 0x0018 ∷ wlv1 1 ∷ wfst 1 ∷ wslw 1 ∷ []) (global_reset_mcc ++ rd_register 0) (done 50 2)
    (0x102901 ∷ 0 ∷ 0x312101 ∷ 0x00000000 ∷ [])
    (register 0 0 ∷ register 5 0 ∷ wlv1 0 ∷ wfst 0 ∷ wslw 0 ∷ [])
    ∷ []

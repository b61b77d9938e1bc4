-- Triggers, Fasts, and the Slows without a table of their own, in RunMode and out of it.
-- Document 01, "Hunting", "Slow commands" and "A record"; the chip paper, Tables 1-1 and 1-2.
-- Assumes nothing.
use Rattle.std.specs.Prelude.{List, [], ◌∷◌, ◌++◌}
use Rattle.worked_examples.specs.CommandBits.{line, field, lv1, bcr, ecr, cal, sync, slow, en_data_take, global_reset_mcc, global_reset_fe}
use Rattle.worked_examples.specs.Cells.{phase, shift, command, address, count, held, group, unsteady}
use Rattle.worked_examples.specs.Cells.{run_mode, l1id, base, wlv1, wfst, wslw, register}
use Rattle.worked_examples.specs.Example.{Row, row, done}

abbrev pub table : List Row
table =
    -- the listing of document 01, input lines B5C074 and E0B080: EnDataTake, an exact LV1, one with flip, BCR
    row [] (field 48 0xB5C074E0B080) (done 48 4)
    (0x102801 ∷ 0 ∷ 0x150105 ∷ 0x0015 ∷ 0x1C0107 ∷ 0x0005011C ∷ 0x281101 ∷ 0 ∷ [])
    (run_mode 1 ∷ l1id 2 ∷ base 0x28 ∷ wlv1 1 ∷ wfst 0 ∷ wslw 0 ∷ [])
    -- "11101 is an exact LV1", kind 01: in RunMode acted on and sent; out of it neither, and no trigger is counted
    ∷ row (run_mode 1 ∷ []) lv1 (done 5 1) (0x040105 ∷ 0x0004 ∷ []) (l1id 1 ∷ wlv1 0 ∷ [])
    ∷ row [] lv1 (done 5 1) (0x040100 ∷ 0 ∷ []) (l1id 0 ∷ wlv1 0 ∷ [])
    -- "11100, 11111, 11001, 10101 and 01101 are an LV1 with flip"; its position × 65,536 "also when the LV1 is not acted on"
    ∷ row (run_mode 1 ∷ []) (line "11100 11111 11001 10101 01101") (done 25 5)
    (0x040107 ∷ 0x00050004 ∷ 0x090107 ∷ 0x00040109 ∷ 0x0E0107 ∷ 0x0003020E ∷ 0x130107 ∷ 0x00020313 ∷ 0x180107 ∷ 0x00010418 ∷ [])
    (l1id 5 ∷ wlv1 1 ∷ [])
    ∷ row [] (line "11111") (done 5 1) (0x040102 ∷ 0x00040000 ∷ []) (l1id 0 ∷ wlv1 1 ∷ [])
    ∷ row [] (line "11100 11111 11001 10101 01101") (done 25 5)
    (0x040102 ∷ 0x00050000 ∷ 0x090102 ∷ 0x00040000 ∷ 0x0E0102 ∷ 0x00030000 ∷ 0x130102 ∷ 0x00020000 ∷ 0x180102 ∷ 0x00010000 ∷ [])
    (l1id 0 ∷ wlv1 1 ∷ [])
    -- "10 + body for a Fast": BCR, ECR, CAL, SYNC; two of them too close, flag 20
    ∷ row (run_mode 1 ∷ []) (bcr ++ (ecr ++ (cal ++ sync))) (done 36 4)
    (0x081101 ∷ 0 ∷ 0x111221 ∷ 0 ∷ 0x1A1421 ∷ 0 ∷ 0x231801 ∷ 0 ∷ [])
    (run_mode 1 ∷ wfst 0 ∷ [])
    ∷ row [] (bcr ++ (ecr ++ (cal ++ sync))) (done 36 4)
    (0x081100 ∷ 0 ∷ 0x111220 ∷ 0 ∷ 0x1A1420 ∷ 0 ∷ 0x231800 ∷ 0 ∷ [])
    (run_mode 0 ∷ wfst 0 ∷ [])
    -- "any other a bad Fast", kind 1F, never acted on; the value is "its body"
    ∷ row (run_mode 1 ∷ [])
    (line "10110 0000 10110 0011 10110 0101 10110 0110 10110 0111 10110 1001 10110 1010 10110 1100 10110 1101 10110 1110 10110 1111")
    (done 99 11)
    (0x081F00 ∷ 0b0000 ∷ 0x111F00 ∷ 0b0011 ∷ 0x1A1F00 ∷ 0b0101 ∷ 0x231F00 ∷ 0b0110 ∷ 0x2C1F00 ∷ 0b0111 ∷ 0x351F00 ∷ 0b1001
    ∷ 0x3E1F00 ∷ 0b1010 ∷ 0x471F00 ∷ 0b1100 ∷ 0x501F00 ∷ 0b1101 ∷ 0x591F00 ∷ 0b1110 ∷ 0x621F00 ∷ 0b1111 ∷ [])
    (run_mode 1 ∷ wlv1 0 ∷ wfst 1 ∷ wslw 0 ∷ [])
    ∷ row [] (line "10110 0000") (done 9 1) (0x081F00 ∷ 0 ∷ []) (wfst 1 ∷ [])
    -- "1101 straight after a command is an LV1 with flip", its first bit the cleared window's; the bunch number counts from the BCR
    ∷ row (run_mode 1 ∷ []) (bcr ++ line "1101") (done 13 2) (0x081101 ∷ 0 ∷ 0x0C0127 ∷ 0x00010004 ∷ []) []
    -- and straight after an opening
    ∷ row [] (line "1101") (done 4 1) (0x030102 ∷ 0x00010000 ∷ []) []
    -- "20 + Field 3 for a Slow"; EnDataTake starts RunMode with its last bit, whatever Field 4 is
    ∷ row [] (line "10110 1011 1000 000") (done 16 0) [] (run_mode 0 ∷ [])
    ∷ row [] en_data_take (done 17 1) (0x102801 ∷ 0 ∷ []) (run_mode 1 ∷ [])
    ∷ row [] (slow "1000" 0b1111 []) (done 17 1) (0x102801 ∷ 0 ∷ []) (run_mode 1 ∷ [])
    ∷ row (run_mode 1 ∷ []) global_reset_mcc (done 17 1) (0x102901 ∷ 0 ∷ []) (run_mode 0 ∷ [])
    -- GlobalResetFE, "SyncW × 2 + 1"; the chip paper's section 1.2.3.10: SyncW = 3 gives 7, and the width ranges from 1 to 31
    ∷ row [] (global_reset_fe 3 ++ (global_reset_fe 0 ++ global_reset_fe 15)) (done 63 3)
    (0x142A01 ∷ 7 ∷ 0x292A01 ∷ 1 ∷ 0x3E2A01 ∷ 31 ∷ [])
    []
    -- "RunMode ends at the ninth header bit of any Slow": not at the eighth
    ∷ row (run_mode 1 ∷ []) (line "10110 101") (done 8 0) [] (run_mode 1 ∷ phase 1 ∷ [])
    ∷ row (run_mode 1 ∷ []) (line "10110 1011") (done 9 0) [] (run_mode 0 ∷ phase 2 ∷ [])
    -- what the recogniser holds inside a command: the window; the bits of a body, Field 3, Field 4; the bits of Field 5, of which a read keeps none
    ∷ row [] (line "0001011") (done 7 0) [] (phase 0 ∷ shift 0b01011 ∷ [])
    ∷ row [] (line "10110 10") (done 7 0) [] (phase 1 ∷ count 2 ∷ shift 0b10 ∷ [])
    ∷ row [] (line "10110 1011 101") (done 12 0) [] (phase 2 ∷ count 3 ∷ shift 0b101 ∷ [])
    ∷ row [] (line "10110 1011 0110 01") (done 15 0) [] (phase 3 ∷ command 0b0110 ∷ count 2 ∷ shift 0b01 ∷ [])
    ∷ row [] (line "10110 1011 0000 0101 1011") (done 21 0) [] (phase 4 ∷ command 0 ∷ address 0b0101 ∷ count 4 ∷ held 0b1011 ∷ [])
    ∷ row [] (line "10110 1011 0001 0101 1011") (done 21 0) [] (phase 4 ∷ command 1 ∷ address 0b0101 ∷ count 4 ∷ held 0 ∷ [])
    ∷ row [] (line "10110 1011 0011 1111 1011") (done 21 0) [] (phase 4 ∷ command 3 ∷ address 0b1111 ∷ count 4 ∷ held 0 ∷ [])
    -- the bits of an unfinished group; a finished one leaves nothing but whether it was unsteady, and a WrReceiver has none
    ∷ row (register 5 0x0010 ∷ []) (line "10110 1011 0100 0000 11110") (done 22 0) [] (phase 4 ∷ count 5 ∷ group 0b11110 ∷ unsteady 0 ∷ [])
    ∷ row (register 5 0x0010 ∷ []) (line "10110 1011 0101 0000 11110000") (done 25 0) [] (phase 4 ∷ count 8 ∷ group 0 ∷ unsteady 1 ∷ [])
    ∷ row (register 5 0x0010 ∷ []) (line "10110 1011 0100 0000 11111111 01") (done 27 0) [] (phase 4 ∷ count 10 ∷ group 0b01 ∷ unsteady 0 ∷ [])
    ∷ row (register 5 0x0002 ∷ []) (line "10110 1011 0110 0000 10110") (done 22 0) [] (phase 4 ∷ count 5 ∷ group 0 ∷ unsteady 0 ∷ [])
    -- "Other values of Field 3 are a bad Slow, recorded after Field 4": kind 2F, never acted on; the value is Field 3
    ∷ row (run_mode 1 ∷ [])
    (slow "0111" 0 [] ++ (slow "1011" 0 [] ++ (slow "1100" 0 [] ++ (slow "1101" 0 [] ++ (slow "1110" 0 [] ++ slow "1111" 0b1111 [])))))
    (done 102 6)
    (0x102F00 ∷ 0b0111 ∷ 0x212F00 ∷ 0b1011 ∷ 0x322F00 ∷ 0b1100 ∷ 0x432F00 ∷ 0b1101 ∷ 0x542F00 ∷ 0b1110 ∷ 0x652F00 ∷ 0b1111 ∷ [])
    (run_mode 0 ∷ wlv1 0 ∷ wfst 0 ∷ wslw 1 ∷ [])
    ∷ []

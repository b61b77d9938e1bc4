-- Commands sent too close, flag 20, and at the distance that the timing table asks (document 02, F-5; document 01's zeros between commands).
-- Assumes nothing.
use Rattle.std.specs.Prelude.{List, [], ◌∷◌, ◌++◌, ℕ}
use Rattle.worked_examples.specs.CommandBits.{line, field, lv1, bcr, ecr, cal, sync, slow, wr_register, wr_fifo, wr_front_end, wr_receiver}
use Rattle.worked_examples.specs.CommandBits.{en_data_take, global_reset_mcc, global_reset_fe}
use Rattle.worked_examples.specs.Cells.{Cell, next, shift, run_mode, register, earlier_time, earlier_kind}
use Rattle.worked_examples.specs.Example.{Row, row, done, frame}

abbrev running : List Cell
running = run_mode 1 ∷ []

abbrev bad_fast : List ℕ
bad_fast = line "10110 0000"

abbrev bad_slow : List ℕ
bad_slow = slow "0111" 0 []

abbrev pub table : List Row
table =
    -- "after BCR 2, after ECR 1, if a Fast follows": one less is too close; the record then is the one before, by its time and kind
    row running (bcr ++ (line "0" ++ bcr)) (done 19 2) (0x081101 ∷ 0 ∷ 0x121121 ∷ 0 ∷ []) (earlier_time 0x12 ∷ earlier_kind 0x11 ∷ [])
    ∷ row running (bcr ++ (line "00" ++ bcr)) (done 20 2) (0x081101 ∷ 0 ∷ 0x131101 ∷ 0 ∷ []) (earlier_time 0x13 ∷ earlier_kind 0x11 ∷ [])
    ∷ row running (ecr ++ cal) (done 18 2) (0x081201 ∷ 0 ∷ 0x111421 ∷ 0 ∷ []) []
    ∷ row running (ecr ++ (line "0" ++ cal)) (done 19 2) (0x081201 ∷ 0 ∷ 0x121401 ∷ 0 ∷ []) []
    -- "after SYNC 4, if an LV1 follows"; "An LV1 with flip counts as an LV1"
    ∷ row running (sync ++ (line "000" ++ lv1)) (done 17 2) (0x081801 ∷ 0 ∷ 0x100125 ∷ 0x0010 ∷ []) (earlier_time 0x10 ∷ earlier_kind 0x01 ∷ [])
    ∷ row running (sync ++ (line "0000" ++ lv1)) (done 18 2) (0x081801 ∷ 0 ∷ 0x110105 ∷ 0x0011 ∷ []) []
    ∷ row running (sync ++ line "000 11100") (done 17 2) (0x081801 ∷ 0 ∷ 0x100127 ∷ 0x00050010 ∷ []) []
    -- "otherwise 0"
    ∷ row running (bcr ++ lv1) (done 14 2) (0x081101 ∷ 0 ∷ 0x0D0105 ∷ 0x0005 ∷ []) []
    ∷ row running (ecr ++ lv1) (done 14 2) (0x081201 ∷ 0 ∷ 0x0D0105 ∷ 0x000D ∷ []) []
    ∷ row running (cal ++ lv1) (done 14 2) (0x081401 ∷ 0 ∷ 0x0D0105 ∷ 0x000D ∷ []) []
    ∷ row running (cal ++ bcr) (done 18 2) (0x081401 ∷ 0 ∷ 0x111101 ∷ 0 ∷ []) []
    ∷ row running (sync ++ bcr) (done 18 2) (0x081801 ∷ 0 ∷ 0x111101 ∷ 0 ∷ []) []
    ∷ row running (lv1 ++ (lv1 ++ bcr)) (done 19 3) (0x040105 ∷ 0x0004 ∷ 0x090105 ∷ 0x0109 ∷ 0x121101 ∷ 0 ∷ []) []
    -- "A bad Fast counts as a Fast when it follows; a Slow or bad Slow too"
    ∷ row running (bcr ++ (line "0" ++ bad_fast)) (done 19 2) (0x081101 ∷ 0 ∷ 0x121F20 ∷ 0 ∷ []) []
    ∷ row running (bcr ++ (line "00" ++ bad_fast)) (done 20 2) (0x081101 ∷ 0 ∷ 0x131F00 ∷ 0 ∷ []) []
    ∷ row running (bcr ++ (line "0" ++ en_data_take)) (done 27 2) (0x081101 ∷ 0 ∷ 0x1A2821 ∷ 0 ∷ []) []
    ∷ row running (bcr ++ (line "00" ++ en_data_take)) (done 28 2) (0x081101 ∷ 0 ∷ 0x1B2801 ∷ 0 ∷ []) []
    ∷ row running (bcr ++ (line "0" ++ bad_slow)) (done 27 2) (0x081101 ∷ 0 ∷ 0x1A2F20 ∷ 7 ∷ []) []
    ∷ row running (bcr ++ (line "00" ++ bad_slow)) (done 28 2) (0x081101 ∷ 0 ∷ 0x1B2F00 ∷ 7 ∷ []) []
    ∷ row running (ecr ++ bad_fast) (done 18 2) (0x081201 ∷ 0 ∷ 0x111F20 ∷ 0 ∷ []) []
    ∷ row running (ecr ++ en_data_take) (done 26 2) (0x081201 ∷ 0 ∷ 0x192821 ∷ 0 ∷ []) []
    ∷ row running (bcr ++ (line "0" ++ global_reset_mcc)) (done 27 2) (0x081101 ∷ 0 ∷ 0x1A2921 ∷ 0 ∷ []) []
    -- "reckoned back by its length": 33 bits of a register command, here to a missing register, 44 of a FIFO command, 21 of GlobalResetFE
    ∷ row running (bcr ++ (line "0" ++ wr_register 15 0xFFFF)) (done 43 2) (0x081101 ∷ 0 ∷ 0x2A2028 ∷ 0x000FFFFF ∷ []) []
    ∷ row running (bcr ++ (line "00" ++ wr_register 15 0xFFFF)) (done 44 2) (0x081101 ∷ 0 ∷ 0x2B2008 ∷ 0x000FFFFF ∷ []) []
    ∷ row running (bcr ++ (line "0" ++ wr_fifo 5)) (done 54 2) (0x081101 ∷ 0 ∷ 0x352221 ∷ 5 ∷ []) []
    ∷ row running (bcr ++ (line "00" ++ wr_fifo 5)) (done 55 2) (0x081101 ∷ 0 ∷ 0x362201 ∷ 5 ∷ []) []
    ∷ row running (bcr ++ (line "0" ++ global_reset_fe 0)) (done 31 2) (0x081101 ∷ 0 ∷ 0x1E2A21 ∷ 1 ∷ []) []
    ∷ row running (bcr ++ (line "00" ++ global_reset_fe 0)) (done 32 2) (0x081101 ∷ 0 ∷ 0x1F2A01 ∷ 1 ∷ []) []
    -- with Field 5 by CNT; the flags are added
    ∷ row (run_mode 1 ∷ register 5 0x0001 ∷ []) (bcr ++ (line "0" ++ wr_receiver (field 8 0))) (frame 35 2)
    (0x081101 ∷ 0 ∷ 0x222621 ∷ 8 ∷ [])
    (earlier_time 0x22 ∷ earlier_kind 0x26 ∷ [])
    ∷ row (run_mode 1 ∷ register 5 0x0001 ∷ []) (bcr ++ (line "00" ++ wr_receiver (field 8 0))) (frame 36 2) (0x081101 ∷ 0 ∷ 0x232601 ∷ 8 ∷ []) []
    ∷ row (run_mode 1 ∷ register 5 0x0008 ∷ []) (bcr ++ (line "0" ++ wr_front_end (field 8 0))) (frame 35 2) (0x081101 ∷ 0 ∷ 0x222421 ∷ 1 ∷ []) []
    ∷ row (run_mode 1 ∷ register 5 0x0008 ∷ []) (bcr ++ (line "00" ++ wr_front_end (field 8 0))) (frame 36 2) (0x081101 ∷ 0 ∷ 0x232401 ∷ 1 ∷ []) []
    ∷ row (run_mode 1 ∷ register 5 0x0008 ∷ []) (bcr ++ (line "0" ++ wr_front_end (line "10000000"))) (frame 35 2) (0x081101 ∷ 0 ∷ 0x222431 ∷ 1 ∷ []) []
    -- "none of these three asks zeros after itself"
    ∷ row running (bad_fast ++ (bcr ++ lv1)) (done 23 3) (0x081F00 ∷ 0 ∷ 0x111101 ∷ 0 ∷ 0x160105 ∷ 0x0005 ∷ []) []
    ∷ row running (bad_fast ++ lv1) (done 14 2) (0x081F00 ∷ 0 ∷ 0x0D0105 ∷ 0x000D ∷ []) []
    ∷ row [] (en_data_take ++ (lv1 ++ bcr)) (done 31 3) (0x102801 ∷ 0 ∷ 0x150105 ∷ 0x0015 ∷ 0x1E1101 ∷ 0 ∷ []) []
    ∷ row [] (bad_slow ++ (bcr ++ lv1)) (done 31 3) (0x102F00 ∷ 7 ∷ 0x191100 ∷ 0 ∷ 0x1E0100 ∷ 0 ∷ []) []
    -- "A distance below 0, as -1 for 1101 straight after a command, is always too close"
    ∷ row running (bad_fast ++ line "1101") (done 13 2) (0x081F00 ∷ 0 ∷ 0x0C0127 ∷ 0x0001000C ∷ []) []
    ∷ row running (cal ++ line "1101") (done 13 2) (0x081401 ∷ 0 ∷ 0x0C0127 ∷ 0x0001000C ∷ []) []
    -- out of RunMode alike: a BCR that is not acted on still asks
    ∷ row [] (bcr ++ (line "0" ++ bcr)) (done 19 2) (0x081100 ∷ 0 ∷ 0x121120 ∷ 0 ∷ []) []
    -- "also over GlobalResetMCC", whose own record is then the one before
    ∷ row [] global_reset_mcc (done 17 1) (0x102901 ∷ 0 ∷ []) (earlier_time 0x10 ∷ earlier_kind 0x29 ∷ [])
    ∷ row [] (global_reset_mcc ++ line "1101") (done 21 2) (0x102901 ∷ 0 ∷ 0x140122 ∷ 0x00010000 ∷ []) []
    -- "The first record after opening is never flagged"
    ∷ row [] (line "1101") (done 4 1) (0x030102 ∷ 0x00010000 ∷ []) (earlier_time 0x03 ∷ earlier_kind 0x01 ∷ [])
    ∷ row (earlier_time 0xFFFFFFFFFFFFFFFF ∷ []) bcr (done 9 1) (0x081100 ∷ 0 ∷ []) []
    -- across calls the state remembers it: a BCR at cycle 9, 8 or 7, and the next from cycle 10 on
    ∷ row (next 10 ∷ earlier_time 9 ∷ earlier_kind 0x11 ∷ []) bcr (done 9 1) (0x121120 ∷ 0 ∷ []) []
    ∷ row (next 10 ∷ earlier_time 8 ∷ earlier_kind 0x11 ∷ []) bcr (done 9 1) (0x121120 ∷ 0 ∷ []) []
    ∷ row (next 10 ∷ earlier_time 7 ∷ earlier_kind 0x11 ∷ []) bcr (done 9 1) (0x121100 ∷ 0 ∷ []) []
    -- a first bit before cycle 0, of a window that a sound state may hold
    ∷ row (next 1 ∷ shift 0b01110 ∷ earlier_time 0 ∷ earlier_kind 0x14 ∷ []) (line "1") (done 1 1) (0x010120 ∷ 0 ∷ []) []
    ∷ row (next 1 ∷ shift 0b01110 ∷ []) (line "1") (done 1 1) (0x010100 ∷ 0 ∷ []) []
    ∷ []

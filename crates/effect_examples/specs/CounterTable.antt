-- The trigger number, the bunch number and the base (document 01, "What commands do" and "A record").
-- Assumes nothing.
use Rattle.std.specs.Prelude.{List, [], ◌∷◌, ◌++◌}
use Rattle.worked_examples.specs.CommandBits.{line, lv1, bcr, en_data_take, global_reset_mcc}
use Rattle.worked_examples.specs.Cells.{next, run_mode, l1id, base, register}
use Rattle.worked_examples.specs.Example.{Row, row, done}

abbrev pub table : List Row
table =
    -- "reports L1ID and the bunch number, then adds 1 to L1ID, modulo 256"
    row (run_mode 1 ∷ l1id 255 ∷ []) (lv1 ++ lv1) (done 10 2) (0x040105 ∷ 0xFF04 ∷ 0x090105 ∷ 0x0009 ∷ []) (l1id 1 ∷ next 10 ∷ [])
    -- "the cycle less the base cycle, modulo 256", in hexadecimal: 202 less F0 is 112, and 125 less 10 is 115
    ∷ row (next 0x1FE ∷ base 0xF0 ∷ run_mode 1 ∷ []) lv1 (done 5 1) (0x2020105 ∷ 0x0012 ∷ []) (l1id 1 ∷ base 0xF0 ∷ next 0x203 ∷ [])
    ∷ row (next 0x121 ∷ l1id 3 ∷ base 0x10 ∷ run_mode 1 ∷ []) lv1 (done 5 1) (0x1250105 ∷ 0x0315 ∷ []) (l1id 4 ∷ base 0x10 ∷ [])
    ∷ row (next 0x121 ∷ l1id 255 ∷ base 0x10 ∷ run_mode 1 ∷ []) lv1 (done 5 1) (0x1250105 ∷ 0xFF15 ∷ []) (l1id 0 ∷ base 0x10 ∷ [])
    -- "BCR, in RunMode, moves the base" to its own time
    ∷ row (next 0x100 ∷ l1id 3 ∷ run_mode 1 ∷ []) (bcr ++ lv1) (done 14 2) (0x1081101 ∷ 0 ∷ 0x10D0105 ∷ 0x0305 ∷ []) (l1id 4 ∷ base 0x108 ∷ [])
    ∷ row (next 0x100 ∷ l1id 3 ∷ base 0x0F ∷ []) bcr (done 9 1) (0x1081100 ∷ 0 ∷ []) (l1id 3 ∷ base 0x0F ∷ [])
    -- the base is "the time of the last BCR acted on or GlobalResetMCC": its last bit, cycle 310 hexadecimal; EnDataTake moves none
    ∷ row (next 0x300 ∷ l1id 7 ∷ base 0x0F ∷ []) (global_reset_mcc ++ (en_data_take ++ lv1)) (done 39 3)
    (0x3102901 ∷ 0 ∷ 0x3212801 ∷ 0 ∷ 0x3260105 ∷ 0x0016 ∷ [])
    (l1id 1 ∷ base 0x310 ∷ run_mode 1 ∷ [])
    -- flag 04, "an LV1 acted on while CSR bit 6 is 0": exact and with flip
    ∷ row (register 0 0xFFBF ∷ run_mode 1 ∷ []) (lv1 ++ line "11100") (done 10 2) (0x040105 ∷ 0x0004 ∷ 0x090107 ∷ 0x00050109 ∷ []) []
    ∷ row (register 0 0x0040 ∷ run_mode 1 ∷ []) (lv1 ++ line "11100") (done 10 2) (0x040101 ∷ 0x0004 ∷ 0x090103 ∷ 0x00050109 ∷ []) (l1id 2 ∷ [])
    -- out of RunMode it is neither acted on nor sent, whatever CSR bit 6 is
    ∷ row (register 0 0xFFBF ∷ []) (lv1 ++ line "11100") (done 10 2) (0x040100 ∷ 0 ∷ 0x090102 ∷ 0x00050000 ∷ []) (l1id 0 ∷ [])
    ∷ row (register 0 0x0040 ∷ []) (lv1 ++ line "11100") (done 10 2) (0x040100 ∷ 0 ∷ 0x090102 ∷ 0x00050000 ∷ []) (l1id 0 ∷ [])
    -- the last cycles below 2^48
    ∷ row (next 0xFFFFFFFFFFFB ∷ run_mode 1 ∷ []) lv1 (done 5 1) (0xFFFFFFFFFFFF0105 ∷ 0x00FF ∷ []) (next 0x1000000000000 ∷ [])
    ∷ []

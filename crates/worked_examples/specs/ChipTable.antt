-- The chip paper's Tables 1-4 to 1-9, "Single bit flip in a .. command", row by row, in RunMode from cycle 0.
-- Assumes nothing.
use Rattle.std.specs.Prelude.{List, [], ◌∷◌}
use Rattle.worked_examples.specs.CommandBits.{line}
use Rattle.worked_examples.specs.Cells.{Cell, phase, count, run_mode}
use Rattle.worked_examples.specs.Example.{Row, row, done}

abbrev running : List Cell
running = run_mode 1 ∷ []

-- Flags 05 with kind 01 are the paper's "LV1" and flags 07 its "LV1 (w. bit-flip)"; kind 1F is its "bad Fast command";
-- where no record is expected the paper has "missed command".
abbrev pub table : List Row
table =
    -- Table 1-4, LV1
    row running (line "0000 11101 00") (done 11 1) (0x080105 ∷ 0x0008 ∷ []) []
    ∷ row running (line "0000 11101 10") (done 11 1) (0x080105 ∷ 0x0008 ∷ []) []
    ∷ row running (line "0000 11100 00") (done 11 1) (0x080107 ∷ 0x00050008 ∷ []) []
    ∷ row running (line "0000 11111 00") (done 11 1) (0x080107 ∷ 0x00040008 ∷ []) []
    ∷ row running (line "0000 11001 00") (done 11 1) (0x080107 ∷ 0x00030008 ∷ []) []
    ∷ row running (line "0000 10101 00") (done 11 1) (0x080107 ∷ 0x00020008 ∷ []) []
    ∷ row running (line "0000 01101 00") (done 11 1) (0x080107 ∷ 0x00010008 ∷ []) []
    ∷ row running (line "0001 11101 00") (done 11 1) (0x080105 ∷ 0x0008 ∷ []) []
    ∷ row running (line "0010 11101 00") (done 11 1) (0x080105 ∷ 0x0008 ∷ []) []
    ∷ row running (line "0100 11101 00") (done 11 1) (0x080105 ∷ 0x0008 ∷ []) []
    -- Table 1-5, BCR
    ∷ row running (line "0000 10110 0001 00") (done 15 1) (0x0C1101 ∷ 0 ∷ []) []
    ∷ row running (line "0000 10110 0001 10") (done 15 1) (0x0C1101 ∷ 0 ∷ []) []
    ∷ row running (line "0000 10110 0000 00") (done 15 1) (0x0C1F00 ∷ 0 ∷ []) []
    ∷ row running (line "0000 10110 0011 00") (done 15 1) (0x0C1F00 ∷ 0x0003 ∷ []) []
    ∷ row running (line "0000 10110 0101 00") (done 15 1) (0x0C1F00 ∷ 0x0005 ∷ []) []
    ∷ row running (line "0000 10110 1001 00") (done 15 1) (0x0C1F00 ∷ 0x0009 ∷ []) []
    ∷ row running (line "0000 10111 0001 00") (done 15 1) (0x0A0107 ∷ 0x0005000A ∷ []) []
    ∷ row running (line "0000 10100 0001 00") (done 15 0) [] []
    ∷ row running (line "0000 10010 0001 00") (done 15 0) [] []
    ∷ row running (line "0000 11110 0001 00") (done 15 1) (0x090107 ∷ 0x00050009 ∷ []) []
    ∷ row running (line "0000 00110 0001 00") (done 15 0) [] []
    ∷ row running (line "0001 10110 0001 00") (done 15 1) (0x060107 ∷ 0x00010006 ∷ []) []
    ∷ row running (line "0010 10110 0001 00") (done 15 1) (0x060107 ∷ 0x00020006 ∷ []) []
    ∷ row running (line "0100 10110 0001 00") (done 15 1) (0x0C1101 ∷ 0 ∷ []) []
    -- Table 1-6, CAL
    ∷ row running (line "0000 10110 0100 00") (done 15 1) (0x0C1401 ∷ 0 ∷ []) []
    ∷ row running (line "0000 10110 0100 10") (done 15 1) (0x0C1401 ∷ 0 ∷ []) []
    ∷ row running (line "0000 10110 0101 00") (done 15 1) (0x0C1F00 ∷ 0x0005 ∷ []) []
    ∷ row running (line "0000 10110 0110 00") (done 15 1) (0x0C1F00 ∷ 0x0006 ∷ []) []
    ∷ row running (line "0000 10110 0000 00") (done 15 1) (0x0C1F00 ∷ 0 ∷ []) []
    ∷ row running (line "0000 10110 1100 00") (done 15 1) (0x0C1F00 ∷ 0x000C ∷ []) []
    ∷ row running (line "0000 10111 0100 00") (done 15 1) (0x0A0105 ∷ 0x000A ∷ []) []
    ∷ row running (line "0000 10100 0100 00") (done 15 0) [] []
    ∷ row running (line "0000 10010 0100 00") (done 15 0) [] []
    ∷ row running (line "0000 11110 0100 00") (done 15 1) (0x090107 ∷ 0x00050009 ∷ []) []
    ∷ row running (line "0000 00110 0100 00") (done 15 1) (0x0A0107 ∷ 0x0003000A ∷ []) []
    ∷ row running (line "0001 10110 0100 00") (done 15 1) (0x060107 ∷ 0x00010006 ∷ []) []
    ∷ row running (line "0010 10110 0100 00") (done 15 1) (0x060107 ∷ 0x00020006 ∷ []) []
    ∷ row running (line "0100 10110 0100 00") (done 15 1) (0x0C1401 ∷ 0 ∷ []) []
    -- Table 1-7, ECR
    ∷ row running (line "0000 10110 0010 00") (done 15 1) (0x0C1201 ∷ 0 ∷ []) []
    ∷ row running (line "0000 10110 0010 10") (done 15 1) (0x0C1201 ∷ 0 ∷ []) []
    ∷ row running (line "0000 10110 0011 00") (done 15 1) (0x0C1F00 ∷ 0x0003 ∷ []) []
    ∷ row running (line "0000 10110 0000 00") (done 15 1) (0x0C1F00 ∷ 0 ∷ []) []
    ∷ row running (line "0000 10110 0110 00") (done 15 1) (0x0C1F00 ∷ 0x0006 ∷ []) []
    ∷ row running (line "0000 10110 1010 00") (done 15 1) (0x0C1F00 ∷ 0x000A ∷ []) []
    ∷ row running (line "0000 10111 0010 00") (done 15 1) (0x0A0107 ∷ 0x0005000A ∷ []) []
    ∷ row running (line "0000 10100 0010 00") (done 15 0) [] []
    ∷ row running (line "0000 10010 0010 00") (done 15 0) [] []
    ∷ row running (line "0000 11110 0010 00") (done 15 1) (0x090107 ∷ 0x00050009 ∷ []) []
    ∷ row running (line "0000 00110 0010 00") (done 15 0) [] []
    ∷ row running (line "0001 10110 0010 00") (done 15 1) (0x060107 ∷ 0x00010006 ∷ []) []
    ∷ row running (line "0010 10110 0010 00") (done 15 1) (0x060107 ∷ 0x00020006 ∷ []) []
    ∷ row running (line "0100 10110 0010 00") (done 15 1) (0x0C1201 ∷ 0 ∷ []) []
    -- Table 1-8, SYNC
    ∷ row running (line "0000 10110 1000 00") (done 15 1) (0x0C1801 ∷ 0 ∷ []) []
    ∷ row running (line "0000 10110 1000 10") (done 15 1) (0x0C1801 ∷ 0 ∷ []) []
    ∷ row running (line "0000 10110 1001 00") (done 15 1) (0x0C1F00 ∷ 0x0009 ∷ []) []
    ∷ row running (line "0000 10110 1010 00") (done 15 1) (0x0C1F00 ∷ 0x000A ∷ []) []
    ∷ row running (line "0000 10110 1100 00") (done 15 1) (0x0C1F00 ∷ 0x000C ∷ []) []
    ∷ row running (line "0000 10110 0000 00") (done 15 1) (0x0C1F00 ∷ 0 ∷ []) []
    ∷ row running (line "0000 10111 1000 00") (done 15 1) (0x0B0107 ∷ 0x0005000B ∷ []) []
    ∷ row running (line "0000 10100 1000 00") (done 15 0) [] []
    ∷ row running (line "0000 10010 1000 00") (done 15 0) [] []
    ∷ row running (line "0000 11110 1000 00") (done 15 1) (0x090105 ∷ 0x0009 ∷ []) []
    ∷ row running (line "0000 00110 1000 00") (done 15 1) (0x090107 ∷ 0x00010009 ∷ []) []
    ∷ row running (line "0001 10110 1000 00") (done 15 1) (0x060107 ∷ 0x00010006 ∷ []) []
    ∷ row running (line "0010 10110 1000 00") (done 15 1) (0x060107 ∷ 0x00020006 ∷ []) []
    ∷ row running (line "0100 10110 1000 00") (done 15 1) (0x0C1801 ∷ 0 ∷ []) []
    -- Table 1-9, a Slow command's header: RunMode ends with it, and with no damaged one. LV1 are seen in the remains of some damaged ones: RunMode ends only
    -- at an undamaged ninth bit (document 01), so these are acted on.
    ∷ row running (line "0000 10110 1011 00") (done 15 0) [] (run_mode 0 ∷ [])
    ∷ row running (line "0000 10110 1011 10") (done 15 0) [] (run_mode 0 ∷ [])
    ∷ row running (line "0000 10110 1010 00") (done 15 1) (0x0C1F00 ∷ 0x000A ∷ []) (run_mode 1 ∷ [])
    ∷ row running (line "0000 10110 1001 00") (done 15 1) (0x0C1F00 ∷ 0x0009 ∷ []) (run_mode 1 ∷ [])
    ∷ row running (line "0000 10110 1111 00") (done 15 1) (0x0C1F00 ∷ 0x000F ∷ []) (run_mode 1 ∷ [])
    ∷ row running (line "0000 10110 0011 00") (done 15 1) (0x0C1F00 ∷ 0x0003 ∷ []) (run_mode 1 ∷ [])
    ∷ row running (line "0000 10111 1011 00") (done 15 1) (0x0B0105 ∷ 0x000B ∷ []) (run_mode 1 ∷ [])
    -- "(bad) Fast command": 10110 stands in its remains, and the body that follows decides
    ∷ row running (line "0000 10100 1011 00") (done 15 0) [] (run_mode 1 ∷ phase 1 ∷ count 1 ∷ [])
    ∷ row running (line "0000 10010 1011 00") (done 15 1) (0x0B0107 ∷ 0x0002000B ∷ []) (run_mode 1 ∷ [])
    ∷ row running (line "0000 11110 1011 00") (done 15 1) (0x090105 ∷ 0x0009 ∷ []) (run_mode 1 ∷ [])
    ∷ row running (line "0000 00110 1011 00") (done 15 1) (0x090107 ∷ 0x00010009 ∷ []) (run_mode 1 ∷ [])
    ∷ row running (line "0001 10110 1011 00") (done 15 2) (0x060107 ∷ 0x00010006 ∷ 0x0B0107 ∷ 0x0002010B ∷ []) (run_mode 1 ∷ [])
    ∷ row running (line "0010 10110 1011 00") (done 15 2) (0x060107 ∷ 0x00020006 ∷ 0x0B0107 ∷ 0x0002010B ∷ []) (run_mode 1 ∷ [])
    ∷ row running (line "0100 10110 1011 00") (done 15 0) [] (run_mode 0 ∷ [])
    ∷ []

-- The table of document 01, "Streams with their records", row by row: "from cycle 0, RunMode, window 00000".
-- Assumes nothing.
use Rattle.std.specs.Prelude.{List, [], ◌∷◌}
use Rattle.worked_examples.specs.CommandBits.{line}
use Rattle.worked_examples.specs.Cells.{Cell, run_mode, register}
use Rattle.worked_examples.specs.Example.{Row, row, done, frame}

abbrev running : List Cell
running = run_mode 1 ∷ []

-- A record is "time × 65,536 + kind × 256 + flags, then a value". "Exact at t" is kind 01 with flags 05, "flip at t" with flags 07; the value of both is
-- the position × 65,536, the trigger number × 256 and the bunch number, which is t. The second of 111011101 is too close, flag 20 (document 02, F-5).
abbrev pub table : List Row
table =
    row running (line "11101") (done 5 1) (0x040105 ∷ 0x0004 ∷ []) []
    ∷ row running (line "11100") (done 5 1) (0x040107 ∷ 0x00050004 ∷ []) []
    ∷ row running (line "000111101") (done 9 1) (0x080105 ∷ 0x0008 ∷ []) []
    ∷ row running (line "11110") (done 5 0) [] []
    ∷ row running (line "1110111101") (done 10 2) (0x040105 ∷ 0x0004 ∷ 0x090105 ∷ 0x0109 ∷ []) []
    ∷ row running (line "111011101") (done 9 2) (0x040105 ∷ 0x0004 ∷ 0x080127 ∷ 0x00010108 ∷ []) []
    ∷ row running (line "101100001") (done 9 1) (0x081101 ∷ 0 ∷ []) []
    ∷ row running (line "101101001") (done 9 1) (0x081F00 ∷ 9 ∷ []) []
    ∷ row running (line "101110100") (done 9 1) (0x060105 ∷ 0x0006 ∷ []) []
    ∷ row running (line "111101000") (done 9 1) (0x050105 ∷ 0x0005 ∷ []) []
    ∷ row running (line "001100100") (done 9 1) (0x060107 ∷ 0x00030006 ∷ []) []
    ∷ row running (line "0010101101011") (done 13 2) (0x060107 ∷ 0x00020006 ∷ 0x0B0107 ∷ 0x0002010B ∷ []) []
    ∷ row running (line "10110101110110000") (done 17 1) (0x102F00 ∷ 11 ∷ []) []
    ∷ row (run_mode 1 ∷ register 5 0 ∷ []) (line "10110101101000000") (frame 17 1) (0x102401 ∷ 0 ∷ []) []
    ∷ []

-- Frames: their lengths by CNT, their bits in the tray, the vote (document 02, F-4), and unsteady groups (document 01, "Slow commands", "What commands
-- do" and "A record").
-- Assumes nothing.
use Rattle.std.specs.Prelude.{◌≡◌, List, [], ◌∷◌, ◌++◌, map}
use Rattle.frames.specs.Tray.{part_of}
use Rattle.records.specs.Records.{frame_bits_of}
use Rattle.worked_examples.specs.CommandBits.{line, eightfold, lv1, wr_register, wr_front_end, rd_front_end, wr_receiver}
use Rattle.worked_examples.specs.Cells.{phase, command, count, group, unsteady, register, byte}
use Rattle.worked_examples.specs.Example.{Row, row, done, frame}

-- CNT is register 5. "D is CNT<15:3>, the data bits; C is CNT<2:0>, the control bits divided by 8."
abbrev pub table : List Row
table =
    -- WrFrontEnd, kind 24, "D × 8 + C × 64" cycles, "control bits × 65,536 + data bits": CNT 0018 is 3 data bits and 24 cycles
    row [] (wr_register 5 0x0018 ++ wr_front_end (eightfold (line "101"))) (frame 74 2)
    (0x202001 ∷ 0x00050018 ∷ 0x492401 ∷ 0x00000003 ∷ [])
    (byte 0 0xA0 ∷ byte 1 0 ∷ phase 0 ∷ [])
    -- RdFrontEnd, kind 25: CNT 0001 is 8 control bits and 64 cycles
    ∷ row (register 5 0x0001 ∷ []) (rd_front_end (eightfold (line "10100101"))) (frame 81 1) (0x502501 ∷ 0x00080000 ∷ []) (byte 0 0xA5 ∷ [])
    -- CNT 0009 is 8 control bits and 1 data bit
    ∷ row (register 5 0x0009 ∷ []) (rd_front_end (eightfold (line "100000011"))) (frame 89 1) (0x582501 ∷ 0x00080001 ∷ []) (byte 0 0x81 ∷ byte 1 0x80 ∷ [])
    -- a byte is zeroed as its first bit is stored, and no other byte changes
    ∷ row (register 5 0x0009 ∷ byte 0 0xFF ∷ byte 1 0xFF ∷ byte 2 0xFF ∷ []) (wr_front_end (eightfold (line "000000011"))) (frame 89 1)
    (0x582401 ∷ 0x00080001 ∷ [])
    (byte 0 0x01 ∷ byte 1 0x80 ∷ byte 2 0xFF ∷ [])
    -- document 02, F-4: "The bit is stored, and a new byte zeroed, in the eighth cycle"
    ∷ row (register 5 0x0010 ∷ byte 0 0xFF ∷ []) (line "10110 1011 0100 0000 1111111") (done 24 0) [] (byte 0 0xFF ∷ [])
    ∷ row (register 5 0x0010 ∷ byte 0 0xFF ∷ []) (line "10110 1011 0100 0000 11111111") (done 25 0) [] (byte 0 0x80 ∷ [])
    ∷ row (register 5 0x0010 ∷ byte 0 0xFF ∷ []) (line "10110 1011 0101 0000 00000000 1111111") (done 32 0) [] (byte 0 0x00 ∷ [])
    ∷ row (register 5 0x0009 ∷ phase 4 ∷ command 5 ∷ count 64 ∷ byte 1 0xFF ∷ []) (line "1111111") (done 7 0) [] (byte 1 0xFF ∷ [])
    ∷ row (register 5 0x0009 ∷ phase 4 ∷ command 5 ∷ count 64 ∷ byte 1 0xFF ∷ []) (line "11111111") (frame 8 1) (0x072501 ∷ 0x00080001 ∷ [])
    (byte 1 0x80 ∷ [])
    -- the vote: first cycle 0 with none to seven ones, first cycle 1 with one to eight
    ∷ row (register 5 0x0080 ∷ [])
    (wr_front_end
    (line "00000000 00000001 00000011 00000111 00001111 00011111 00111111 01111111"
    ++ line "10000000 11000000 11100000 11110000 11111000 11111100 11111110 11111111"))
    (frame 145 1)
    (0x902411 ∷ 16 ∷ [])
    (byte 0 0b00000111 ∷ byte 1 0b00011111 ∷ [])
    ∷ row (register 5 0x0080 ∷ [])
    (rd_front_end
    (line "00000000 01000000 01000001 01010001 01010101 00110111 01111011 01111111"
    ++ line "10000000 10000001 10100001 10101010 11001101 10110111 11111011 11111111"))
    (frame 145 1)
    (0x902511 ∷ 16 ∷ [])
    (byte 0 0b00000111 ∷ byte 1 0b00011111 ∷ [])
    -- three bits of a group came in an earlier call: five ones; four, the first 0; four, the first 1
    ∷ row (register 5 0x0008 ∷ phase 4 ∷ command 4 ∷ count 3 ∷ group 0b111 ∷ []) (line "10010") (frame 5 1) (0x042411 ∷ 1 ∷ []) (byte 0 0x80 ∷ [])
    ∷ row (register 5 0x0008 ∷ phase 4 ∷ command 4 ∷ count 3 ∷ group 0b011 ∷ byte 0 0xFF ∷ []) (line "10010") (frame 5 1) (0x042411 ∷ 1 ∷ [])
    (byte 0 0x00 ∷ [])
    ∷ row (register 5 0x0008 ∷ phase 4 ∷ command 5 ∷ count 3 ∷ group 0b110 ∷ []) (line "10010") (frame 5 1) (0x042511 ∷ 1 ∷ []) (byte 0 0x80 ∷ [])
    -- flag 10, "a group whose eight differ is unsteady"
    ∷ row (register 5 0x0010 ∷ []) (wr_front_end (line "11111111 00000000")) (frame 33 1) (0x202401 ∷ 2 ∷ []) (byte 0 0x80 ∷ [])
    ∷ row (register 5 0x0010 ∷ []) (wr_front_end (line "01111111 11111111")) (frame 33 1) (0x202411 ∷ 2 ∷ []) (byte 0 0xC0 ∷ [])
    ∷ row (register 5 0x0010 ∷ []) (wr_front_end (line "11110111 00000000")) (frame 33 1) (0x202411 ∷ 2 ∷ []) (byte 0 0x80 ∷ [])
    ∷ row (register 5 0x0010 ∷ []) (rd_front_end (line "00000000 00000001")) (frame 33 1) (0x202511 ∷ 2 ∷ []) (byte 0 0x00 ∷ [])
    -- of an earlier group too, in another call; never of a WrReceiver, whatever the state came with
    ∷ row (register 5 0x0010 ∷ phase 4 ∷ command 4 ∷ count 8 ∷ unsteady 1 ∷ []) (line "00000000") (frame 8 1) (0x072411 ∷ 2 ∷ []) []
    ∷ row (register 5 0x0001 ∷ phase 4 ∷ command 6 ∷ count 7 ∷ group 0b01 ∷ unsteady 1 ∷ []) (line "1") (frame 1 1) (0x2601 ∷ 8 ∷ []) []
    -- WrReceiver, kind 26, "CNT<12:0> × 8" cycles, "one bit a cycle": it has no groups
    ∷ row (register 5 0x0002 ∷ byte 2 0xFF ∷ []) (wr_receiver (line "10100101 11110001")) (frame 33 1)
    (0x202601 ∷ 16 ∷ [])
    (byte 0 0xA5 ∷ byte 1 0xF1 ∷ byte 2 0xFF ∷ [])
    ∷ row (register 5 0xE001 ∷ []) (wr_receiver (line "11111110")) (frame 25 1) (0x182601 ∷ 8 ∷ []) (byte 0 0xFE ∷ [])
    -- a frame that goes on over a tray with ones in it: four bits of byte 0 are received, and four follow
    ∷ row (register 5 0x0001 ∷ phase 4 ∷ command 6 ∷ count 4 ∷ byte 0 0xFF ∷ []) (line "0101") (frame 4 1) (0x032601 ∷ 8 ∷ []) (byte 0 0xF5 ∷ [])
    -- "A Field 5 of length 0 ends with Field 4"
    ∷ row (byte 0 0xFF ∷ []) (wr_front_end []) (frame 17 1) (0x102401 ∷ 0 ∷ []) (byte 0 0xFF ∷ [])
    ∷ row [] (rd_front_end []) (frame 17 1) (0x102501 ∷ 0 ∷ []) []
    ∷ row (register 5 0xE000 ∷ []) (wr_receiver []) (frame 17 1) (0x102601 ∷ 0 ∷ []) []
    -- "'frame' after a record of kind 24, 25 or 26, where it stops at once": the LV1 is not taken
    ∷ row (register 5 0x0001 ∷ []) (wr_receiver (line "00000000") ++ lv1) (frame 25 1) (0x182601 ∷ 8 ∷ []) []
    -- the last cycle of the longest frames, CNT FFFF: "8,247 bits, value 00381FFF", and 65,528 bits of a WrReceiver
    ∷ row (register 5 0xFFFF ∷ phase 4 ∷ command 4 ∷ count 65975 ∷ []) (line "0") (frame 1 1) (0x2401 ∷ 0x00381FFF ∷ []) (phase 0 ∷ count 0 ∷ [])
    ∷ row (register 5 0xFFFF ∷ phase 4 ∷ command 5 ∷ count 65975 ∷ group 0b1111111 ∷ []) (line "0") (frame 1 1) (0x2511 ∷ 0x00381FFF ∷ [])
    (byte 1030 0b00000010 ∷ [])
    ∷ row (register 5 0xFFFF ∷ phase 4 ∷ command 6 ∷ count 65527 ∷ []) (line "1") (frame 1 1) (0x2601 ∷ 0x0000FFF8 ∷ []) (byte 8190 1 ∷ [])
    ∷ []

-- "The frame is handed back as the part of the tray that it fills"; "a count beyond the tray's bits gives the empty part": 0, 1, 8, 9, 24 and 25 bits of
-- a tray of three bytes. And the count itself, by kind and value.
pub record FrameParts : Type 0 where
  pub parts : map (part_of (1 ∷ 2 ∷ 3 ∷ [])) (0 ∷ 1 ∷ 8 ∷ 9 ∷ 24 ∷ 25 ∷ [])
      ≡ [] ∷ (1 ∷ []) ∷ (1 ∷ []) ∷ (1 ∷ 2 ∷ []) ∷ (1 ∷ 2 ∷ 3 ∷ []) ∷ [] ∷ []
  pub front_end : map (frame_bits_of 0x24) (0x00080003 ∷ 0x00381FFF ∷ []) ≡ 11 ∷ 8247 ∷ []
  pub front_end_read : map (frame_bits_of 0x25) (0x00080003 ∷ 0x00381FFF ∷ []) ≡ 11 ∷ 8247 ∷ []
  pub receiver : frame_bits_of 0x26 0x0000FFF8 ≡ 65528

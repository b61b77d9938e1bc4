-- The text of records: "a line a record", and a frame's after it (document 01, "Streams with their records": the station program).
-- Assumes nothing.
use Rattle.std.specs.Prelude.{Bool, cond, ◌&&◌, List, [], ◌∷◌, ◌++◌, ℕ, eqb}
use Rattle.frames.specs.Tray.{part_of}
use Rattle.records.specs.Records.{kind_of, is_frame_head, frame_bits_of}
use Rattle.byte_lines.specs.ByteLines.{frame_line}
use Rattle.layout.specs.ListingLines.{record_line}

-- "after a frame of at least one bit, ">" and its bytes"; a program may leave the frames out.
abbrev pub frame_text : Bool → List ℕ → ℕ → ℕ → List ℕ
frame_text frames tray head value =
    let bits = frame_bits_of (kind_of head) value in
    cond (frames && is_frame_head head) (cond (eqb bits 0) [] (frame_line (part_of tray bits))) []

-- "a line a record"
unfoldable pub record_text : Bool → List ℕ → ℕ → ℕ → List ℕ
record_text frames tray head value = record_line head value ++ frame_text frames tray head value

-- The records of a taking call, from their words. A frame's record is the last, so that the tray still holds the frame.
unfoldable pub records_text : Bool → List ℕ → List ℕ → List ℕ
records_text frames tray [] = []
records_text frames tray (head ∷ []) = []
records_text frames tray (head ∷ value ∷ words) = record_text frames tray head value ++ records_text frames tray words

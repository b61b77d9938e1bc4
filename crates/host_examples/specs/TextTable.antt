-- The lines that are printed and read, as texts (document 01, "Streams with their records", and the refusal table, numbers 7 and 8).
-- Assumes nothing.
use Rattle.std.specs.Prelude.{true, false, List, [], ◌∷◌, ◌++◌, ℕ, take, replicate}
use Prim.Native.Char.{code}
use Prim.Native.String.{String}
use Rattle.output.specs.Ascii.{ascii}
use Rattle.line_meanings.specs.Line.{line_meaning}
use Rattle.layout.specs.ListingLines.{refused_line}
use Rattle.state_lines.specs.StateLines.{runmode_line, word_line}
use Rattle.image_fields.specs.Image.{state_of}
use Rattle.listing.specs.Records.{records_text}
use Rattle.state_listing.specs.State.{state_text}
use Rattle.worked_examples.specs.Cells.{mask, run_mode, l1id, base, wlv1, wslw, register, write_pointer, read_pointer, word}
use Rattle.worked_examples.specs.Example.{Buffers, opening, put_all}

-- A row: what is printed, and its lines.
pub record TextRow : Type 0 where
  pub printed : List ℕ
  pub lines : List String

abbrev prints : List ℕ → List String → TextRow
prints printed lines = record { printed = printed; lines = lines }

abbrev pub text_shown : TextRow → List ℕ
text_shown r = r.printed

-- Lines as bytes, each ended by a line feed.
abbrev pub bytes_of : List String → List ℕ
bytes_of [] = []
bytes_of (text ∷ texts) = ascii text ++ (10 ∷ bytes_of texts)

abbrev pub text_expected : TextRow → List ℕ
text_expected r = bytes_of r.lines

-- A tray whose first bytes are 0F, A0 and 3C.
abbrev tray : List ℕ
tray = 0x0F ∷ 0xA0 ∷ 0x3C ∷ replicate 8189 0

-- A state with something to show in every line.
abbrev some_buffers : Buffers
some_buffers =
    put_all (mask 0x807F ∷ register 0 0xF8BF ∷ register 2 0x8001 ∷ register 6 0xABCD ∷ register 15 1 ∷ l1id 0x1A ∷ base 0x28 ∷ run_mode 1 ∷ wlv1 1 ∷ wslw 1
    ∷ write_pointer 0 1 ∷ read_pointer 1 2 ∷ write_pointer 15 127 ∷ read_pointer 15 10 ∷ word 0 1 0x12345 ∷ word 1 0 1 ∷ [])
    opening

abbrev pub table : List TextRow
table =
    -- document 01's listing of the input lines B5C074 and E0B080, with the position of document 02, F-1
    prints (records_text true tray (0x102801 ∷ 0 ∷ 0x150105 ∷ 0x15 ∷ 0x1C0107 ∷ 0x5011C ∷ 0x281101 ∷ 0 ∷ []))
    ("000000000010 28 01 00000000" ∷ "000000000015 01 05 00000015" ∷ "00000000001C 01 07 0005011C" ∷ "000000000028 11 01 00000000" ∷ [])
    -- "time (12 digits), kind (2), flags (2), value (8)"
    ∷ prints (records_text true tray (0xABCDEF0123452213 ∷ 0x6789ABCD ∷ [])) ("ABCDEF012345 22 13 6789ABCD" ∷ [])
    -- "after a frame of at least one bit, '>' and its bytes": 8 control bits and 1 data bit; 8 control bits; 24 bits of a WrReceiver; none
    ∷ prints (records_text true tray (0x582401 ∷ 0x00080001 ∷ [])) ("000000000058 24 01 00080001" ∷ ">0FA0" ∷ [])
    ∷ prints (records_text true tray (0x502511 ∷ 0x00080000 ∷ [])) ("000000000050 25 11 00080000" ∷ ">0F" ∷ [])
    ∷ prints (records_text true tray (0x282601 ∷ 24 ∷ [])) ("000000000028 26 01 00000018" ∷ ">0FA03C" ∷ [])
    ∷ prints (records_text true tray (0x102601 ∷ 0 ∷ [])) ("000000000010 26 01 00000000" ∷ [])
    -- a program that leaves the frames out
    ∷ prints (records_text false tray (0x282601 ∷ 24 ∷ [])) ("000000000028 26 01 00000018" ∷ [])
    -- "'!', the number in two digits, a space, the line's number from 1 in eight"
    ∷ prints (refused_line 7 1) ("!07 00000001" ∷ [])
    ∷ prints (refused_line 8 0x89ABCDEF) ("!08 89ABCDEF" ∷ [])
    -- the lines of the state (ours): registers as they read, counters, RunMode, the pointers of each FIFO, and the FIFO words that are not 0,
    -- here of two FIFOs
    ∷ prints (state_text (state_of some_buffers.image) (take 256 some_buffers.store))
    ("register 0 FDBF" ∷ "register 1 0000" ∷ "register 2 8001" ∷ "register 3 0000"
    ∷ "register 4 0000" ∷ "register 5 0000" ∷ "register 6 ABCD" ∷ "register F 0001"
    ∷ "l1id 1A" ∷ "base 000000000028" ∷ "runmode 1"
    ∷ "pointers 0 01 00" ∷ "pointers 1 00 02" ∷ "pointers 2 00 00" ∷ "pointers 3 00 00" ∷ "pointers 4 00 00" ∷ "pointers 5 00 00"
    ∷ "pointers 6 00 00" ∷ "pointers 7 00 00" ∷ "pointers 8 00 00" ∷ "pointers 9 00 00" ∷ "pointers A 00 00" ∷ "pointers B 00 00"
    ∷ "pointers C 00 00" ∷ "pointers D 00 00" ∷ "pointers E 00 00" ∷ "pointers F 7F 0A"
    ∷ "word 0 01 00012345" ∷ "word 1 00 00000001" ∷ [])
    ∷ prints (runmode_line false) ("runmode 0" ∷ [])
    ∷ prints (word_line 15 127 0x7FFFFFF) ("word F 7F 07FFFFFF" ∷ [])
    ∷ []

-- A row: the characters of a hexadecimal line; its refusal number; its bytes.
pub record HexRow : Type 0 where
  pub line : List ℕ
  pub number : ℕ
  pub bytes : List ℕ

abbrev reads : List ℕ → List ℕ → HexRow
reads line bytes = record { line = line; number = 0; bytes = bytes }

-- "a refused line gives no bytes"
abbrev rejects : ℕ → List ℕ → HexRow
rejects number line = record { line = line; number = number; bytes = [] }

abbrev pub hex_shown : HexRow → ℕ × List ℕ
hex_shown r = ((line_meaning r.line).number, (line_meaning r.line).bytes)

abbrev pub hex_expected : HexRow → ℕ × List ℕ
hex_expected r = (r.number, r.bytes)

abbrev pub hex_table : List HexRow
hex_table =
    reads (ascii "B5C074") (0xB5 ∷ 0xC0 ∷ 0x74 ∷ [])
    ∷ reads (ascii "0123456789ABCDEF") (0x01 ∷ 0x23 ∷ 0x45 ∷ 0x67 ∷ 0x89 ∷ 0xAB ∷ 0xCD ∷ 0xEF ∷ [])
    ∷ reads (0x30 ∷ 0x39 ∷ 0x41 ∷ 0x46 ∷ []) (0x09 ∷ 0xAF ∷ [])
    ∷ reads [] []
    -- number 7, "a character is not 0-9 or A-F": the neighbours of the digits, lower case, a space, a carriage return, NUL
    ∷ rejects 7 (ascii "0/")
    ∷ rejects 7 (ascii "0:")
    ∷ rejects 7 (ascii "0@")
    ∷ rejects 7 (ascii "0G")
    ∷ rejects 7 (ascii "a0")
    ∷ rejects 7 (ascii "0 ")
    ∷ rejects 7 (0x30 ∷ 0x0D ∷ [])
    ∷ rejects 7 (0x30 ∷ 0x00 ∷ [])
    -- number 8, "the count of digits is odd, or above 64"; 7 wins
    ∷ rejects 8 (ascii "0")
    ∷ rejects 8 (ascii "B5C")
    ∷ reads (replicate 64 (code "F")) (replicate 32 0xFF)
    ∷ rejects 8 (replicate 65 (code "F"))
    ∷ rejects 8 (replicate 66 (code "F"))
    ∷ rejects 7 (ascii "B5G")
    ∷ rejects 7 (replicate 66 (code "F") ++ ascii "G")
    ∷ []

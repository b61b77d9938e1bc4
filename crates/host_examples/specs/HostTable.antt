-- The library for hosts in numbers: the image word by word, and the answers of a taking call on an image (include/kernelstill.h).
-- Assumes nothing.
use Rattle.std.specs.Prelude.{◌≡◌, true, false, List, [], ◌∷◌, ◌++◌, map, ℕ, set, replicate}
use Rattle.recogniser.specs.declared.Phase.{Phase}
use Rattle.recogniser.specs.declared.Phase.TheVariants.{Hunt, Body, Field3, Field4, Field5}
use Rattle.decoder.specs.declared.Decoder.{Decoder}
use Rattle.calls.specs.Take.{call}
use Rattle.image_fields.specs.Fields.{phase_number}
use Rattle.image_fields.specs.Image.{image_of, state_of}
use Rattle.output.specs.Ascii.{ascii}
use Rattle.host_opening.specs.Open.{open_result, open_result_of}
use Rattle.host_results.specs.Take.{take_result_of}
use Rattle.host_lines.specs.Lines.{line_result, hex_result_of, record_result_of}
use Rattle.worked_examples.specs.CommandBits.{packed, lv1, en_data_take, wr_front_end}
use Rattle.worked_examples.specs.Example.{opening}

-- A state whose fields all differ, but for the flags; and its image.
abbrev pub some_state : Decoder
some_state = record {
  plan = record { mask = 0x1234; csr = 11; feen = 12; cnt = 13 };
  next = 0x123456789ABC;
  recogniser = record {
    phase = Field5;
    shift = 21;
    count = 22;
    command = 23;
    address = 24;
    held = 25;
    group = 26;
    unsteady = false;
  };
  model = record {
    running = true;
    counters = record { l1id = 31; base = 32 };
    warnings = record { wlv1 = false; wfst = true; wslw = false };
    registers = 101 ∷ 102 ∷ 103 ∷ 104 ∷ 105 ∷ 106 ∷ 107 ∷ 108 ∷ 109 ∷ 110 ∷ 111 ∷ 112 ∷ 113 ∷ 114 ∷ 115 ∷ 116 ∷ [];
    pointers = record {
      writes = 201 ∷ 202 ∷ 203 ∷ 204 ∷ 205 ∷ 206 ∷ 207 ∷ 208 ∷ 209 ∷ 210 ∷ 211 ∷ 212 ∷ 213 ∷ 214 ∷ 215 ∷ 216 ∷ [];
      reads = 221 ∷ 222 ∷ 223 ∷ 224 ∷ 225 ∷ 226 ∷ 227 ∷ 228 ∷ 229 ∷ 230 ∷ 231 ∷ 232 ∷ 233 ∷ 234 ∷ 235 ∷ 236 ∷ [];
    };
  };
  earlier = record { time = 0x23456789ABCD; kind = 41 };
}

abbrev pub some_image : List ℕ
some_image =
    3 ∷ 0x1234 ∷ 11 ∷ 12 ∷ 13 ∷ 0x123456789ABC
    ∷ 4 ∷ 21 ∷ 23 ∷ 24 ∷ 22 ∷ 25 ∷ 26 ∷ 0
    ∷ 1 ∷ 31 ∷ 32 ∷ 0 ∷ 1 ∷ 0 ∷ 0x23456789ABCD ∷ 41
    ∷ 101 ∷ 102 ∷ 103 ∷ 104 ∷ 105 ∷ 106 ∷ 107 ∷ 108 ∷ 109 ∷ 110 ∷ 111 ∷ 112 ∷ 113 ∷ 114 ∷ 115 ∷ 116
    ∷ 201 ∷ 202 ∷ 203 ∷ 204 ∷ 205 ∷ 206 ∷ 207 ∷ 208 ∷ 209 ∷ 210 ∷ 211 ∷ 212 ∷ 213 ∷ 214 ∷ 215 ∷ 216
    ∷ 221 ∷ 222 ∷ 223 ∷ 224 ∷ 225 ∷ 226 ∷ 227 ∷ 228 ∷ 229 ∷ 230 ∷ 231 ∷ 232 ∷ 233 ∷ 234 ∷ 235 ∷ 236 ∷ []

abbrev pub phases : List Phase
phases = Hunt ∷ Body ∷ Field3 ∷ Field4 ∷ Field5 ∷ []

-- A row: an image; the bits on the line, and how many of them are offered; the words of the list, all free; the words of the result ahead of the call; the
-- refusal number; and the result afterwards.
pub record HostRow : Type 0 where
  pub image : List ℕ
  pub line : List ℕ
  pub count : ℕ
  pub room : ℕ
  pub before : List ℕ
  pub number : ℕ
  pub after : List ℕ

abbrev host_row : List ℕ → List ℕ → ℕ → ℕ → List ℕ → ℕ → List ℕ → HostRow
host_row image line count room before number after =
    record { image = image; line = line; count = count; room = room; before = before; number = number; after = after }

abbrev pub host_shown : HostRow → ℕ × List ℕ
host_shown r =
    let taken = take_result_of r.image r.before
    (call (packed r.line) 0 r.count (replicate 2048 0) (replicate 8192 0) (replicate r.room 0) 0) in
    (taken.number, taken.result)

abbrev pub host_expected : HostRow → ℕ × List ℕ
host_expected r = (r.number, r.after)

abbrev start : List ℕ
start = opening.image

abbrev nines : List ℕ
nines = 9 ∷ 9 ∷ 9 ∷ []

-- The result is the bits taken, the records written and the ending; a refusal leaves it.
abbrev pub table : List HostRow
table =
    -- the endings: 0 'done', 1 'frame', 2 'list full'
    host_row start (en_data_take ++ lv1) 22 4 nines 0 (22 ∷ 2 ∷ 0 ∷ [])
    ∷ host_row start (wr_front_end [] ++ lv1) 22 4 nines 0 (17 ∷ 1 ∷ 1 ∷ [])
    ∷ host_row start (en_data_take ++ lv1) 22 3 nines 0 (17 ∷ 1 ∷ 2 ∷ [])
    -- 3: an image of another length or layout, with a word beyond its width (the group, RunMode, L1ID, the kind of the earlier record, register 1), or of
    -- an unsound state
    ∷ host_row (3 ∷ 0x07FF ∷ 0 ∷ 2 ∷ 5 ∷ replicate 64 0) lv1 5 4 nines 3 nines
    ∷ host_row (3 ∷ 0x07FF ∷ 0 ∷ 2 ∷ 5 ∷ replicate 66 0) lv1 5 4 nines 3 nines
    ∷ host_row (set start 0 1) lv1 5 4 nines 3 nines
    ∷ host_row (set start 0 2) lv1 5 4 nines 3 nines
    ∷ host_row (set start 0 4) lv1 5 4 nines 3 nines
    -- an image as layout 2 had it, of 68 words
    ∷ host_row (2 ∷ 0x07FF ∷ 0 ∷ 2 ∷ 5 ∷ replicate 63 0) lv1 5 4 nines 3 nines
    ∷ host_row (set start 12 255) lv1 5 4 nines 0 (5 ∷ 1 ∷ 0 ∷ [])
    ∷ host_row (set start 12 256) lv1 5 4 nines 3 nines
    ∷ host_row (set start 14 2) lv1 5 4 nines 3 nines
    ∷ host_row (set start 15 255) lv1 5 4 nines 0 (5 ∷ 1 ∷ 0 ∷ [])
    ∷ host_row (set start 15 256) lv1 5 4 nines 3 nines
    ∷ host_row (set (set start 5 1) 21 255) lv1 5 4 nines 0 (5 ∷ 1 ∷ 0 ∷ [])
    ∷ host_row (set (set start 5 1) 21 256) lv1 5 4 nines 3 nines
    ∷ host_row (set start 23 65535) lv1 5 4 nines 0 (5 ∷ 1 ∷ 0 ∷ [])
    ∷ host_row (set start 23 65536) lv1 5 4 nines 3 nines
    ∷ host_row (set start 38 128) lv1 5 4 nines 3 nines
    -- 4: a result of other than three words; 5 and 6 as of the taking call
    ∷ host_row start lv1 5 4 (9 ∷ 9 ∷ []) 4 (9 ∷ 9 ∷ [])
    ∷ host_row start lv1 9 4 nines 5 nines
    ∷ host_row (set start 5 0xFFFFFFFFFFFF) lv1 2 4 nines 6 nines
    ∷ []

-- Buffers of other lengths, and a line in and out.
pub record HostBuffers : Type 0 where
  -- an image of 69 words: 3, or the opening's own number
  pub open_length : open_result_of 0x07FF 0 2 5 0 (replicate 69 9) ≡ open_result 3 (replicate 69 9)
  pub open_number : open_result_of 0x07FF 2 2 5 0 (replicate 69 9) ≡ open_result 1 (replicate 69 9)
  -- a hexadecimal line wants 32 bytes of room
  pub hex_room : hex_result_of (ascii "B5C0") (replicate 31 9) ≡ line_result 4 (replicate 31 9)
  pub hex_read : hex_result_of (ascii "B5C0") (replicate 32 9) ≡ line_result 0 (0xB5 ∷ 0xC0 ∷ replicate 30 9)
  pub hex_refused : hex_result_of (ascii "B5C") (replicate 32 9) ≡ line_result 8 (replicate 32 9)
  -- a record's line wants 28
  pub line_room : record_result_of 0x102801 0 (replicate 27 9) ≡ line_result 4 (replicate 27 9)
  pub line_written : record_result_of 0x102801 0 (replicate 29 9) ≡ line_result 0 (ascii "000000000010 28 01 00000000\n" ++ (9 ∷ []))

pub record HostImage : Type 0 where
  pub image_is : image_of some_state ≡ some_image
  pub reads_as : state_of some_image ≡ some_state
  -- 0 hunting, 1 in a body, 2 in Field 3, 3 in Field 4, 4 in Field 5
  pub phases_are : map phase_number phases ≡ 0 ∷ 1 ∷ 2 ∷ 3 ∷ 4 ∷ []

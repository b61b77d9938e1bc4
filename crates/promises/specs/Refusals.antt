-- The first demand: refusals by number (document 01, "A taking call", the table and what stands below it).
-- Assumes nothing.
use Rattle.std.specs.Prelude.{◌≡◌, Bool, false, cond, not, ◌&&◌, ◌||◌, List, [], ◌∷◌, ℕ, ◌+◌, ◌*◌, ◌%◌, ◌^◌, ◌≤◌, leb, ltb, eqb, length}
use Prim.Native.Char.{code}
use Rattle.std.proofs.lemmas.List.Edits.{sets}
use Rattle.limits.specs.Limits.{clock_limit, store_length, tray_length, input_limit, list_unit}
use Rattle.plans.specs.declared.Plan.{Plan}
use Rattle.plans.specs.Plan.{exists_at, default_plan}
use Rattle.decoder.specs.declared.Decoder.{Decoder}
use Rattle.decoder.specs.Opening.{opened_at, open_of, opening_number}
use Rattle.decoder.specs.Sound.{sound_of}
use Rattle.calls.specs.declared.Ending.{Ending}
use Rattle.calls.specs.Take.{Call, refused, taken_of, take_within, take_of, ending_number}
use Rattle.line_meanings.specs.Digits.{bytes_of}
use Rattle.line_meanings.specs.Line.{Read, line_meaning, read_into}

-- A row of the refusal table: its number, and whether it applies to this call.
pub record Row : Type 0 where
  pub number : ℕ
  pub applies : Bool

abbrev pub row : ℕ → Bool → Row
row number applies = record { number = number; applies = applies }

-- "The lowest number wins at each place": the first row that applies; 0 where none does.
abbrev pub first_of : List Row → ℕ
first_of [] = 0
first_of (r ∷ rs) = cond r.applies r.number (first_of rs)

-- The limits of document 01, that of the input by document 02, F-6, in numbers.
pub record Limits : Type 0 where
  pub clock : clock_limit ≡ 2 ^ 48
  pub store : store_length ≡ 2048
  pub tray : tray_length ≡ 8192
  pub input : input_limit ≡ 1048576
  pub unit : list_unit ≡ 2

-- The default plan in numbers: the addresses of document 01, "The register plan", and the mask of document 02, F-9.
abbrev pub DefaultPlan : Type 0
DefaultPlan = default_plan ≡ record { mask = 0x07FF; csr = 0; feen = 2; cnt = 5 }

-- The rows checked at an opening.
abbrev pub three_in_mask : Plan → Bool
three_in_mask plan =
    exists_at plan plan.csr && (exists_at plan plan.feen && exists_at plan plan.cnt)

abbrev pub three_differ : Plan → Bool
three_differ plan =
    not (eqb plan.csr plan.feen || (eqb plan.csr plan.cnt || eqb plan.feen plan.cnt))

abbrev pub opening_rows : Plan → ℕ → List Row
opening_rows plan cycle =
    row 1 (not (three_in_mask plan && three_differ plan))
    ∷ row 2 (leb clock_limit cycle)
    ∷ []

-- The rows checked at a taking call.
abbrev pub taking_rows : Decoder → Call → List Row
taking_rows d c =
    row 3 (not (sound_of d))
    ∷ row 4 (not (eqb (length c.store) store_length) || (not (eqb (length c.tray) tray_length) || ltb (length c.list) c.free))
    ∷ row 5 (ltb input_limit (length c.input) || ltb (8 * length c.input) (c.first + c.count))
    ∷ row 6 (ltb clock_limit (d.next + c.count))
    ∷ []

-- The rows checked at a hexadecimal line, on its characters: "a character is not 0-9 or A-F"; "the count of digits is odd, or above 64".
abbrev pub between : ℕ → ℕ → ℕ → Bool
between low high c = leb low c && leb c high

abbrev pub wrong_character : ℕ → Bool
wrong_character c = not (between (code "0") (code "9") c || between (code "A") (code "F") c)

abbrev pub some_wrong : List ℕ → Bool
some_wrong [] = false
some_wrong (c ∷ cs) = wrong_character c || some_wrong cs

abbrev pub hex_rows : List ℕ → List Row
hex_rows line =
    row 7 (some_wrong line)
    ∷ row 8 (eqb (length line % 2) 1 || ltb 64 (length line))
    ∷ []

-- An opening answers the number of the first row that applies, "the default start state at cycle 0" at a refusal, else the start state asked for.
pub record Opens (plan : Plan) (cycle : ℕ) : Type 0 where
  pub number : opening_number (open_of plan cycle).opening ≡ first_of (opening_rows plan cycle)
  pub state : (open_of plan cycle).decoder ≡ cond (eqb (first_of (opening_rows plan cycle)) 0) (opened_at plan cycle) (opened_at default_plan 0)

-- A taking call answers the number of the first row that applies. "A refused taking gives 0 bits, 0 records and the state and buffers it came with";
-- any other runs to its end, as `taken_of` says.
pub record Takes (d : Decoder) (c : Call) : Type 0 where
  pub number : ending_number (take_of d c).taken.report.ending ≡ first_of (taking_rows d c)
  pub rejected : eqb (first_of (taking_rows d c)) 0 ≡ false → (ending : Ending) × (take_of d c ≡ refused d c ending)
  pub through : first_of (taking_rows d c) ≡ 0 → take_of d c ≡ taken_of d c

-- "A call with at most 65,536 bytes answers as before" (document 02, F-6): answer and buffers are those of the call with that limit in F-6's place.
abbrev pub AsBefore : Decoder → Call → Type 0
AsBefore d c = length c.input ≤ 65536 → take_of d c ≡ take_within 65536 d c

-- The rows of a call that reads a line into a lent buffer: number 4 where the buffer has fewer bytes than the longest line (ours: document 01 names no
-- buffer for a line), then the line's own.
abbrev pub reading_rows : List ℕ → List ℕ → List Row
reading_rows line buffer = row 4 (ltb (length buffer) 32) ∷ hex_rows line

-- What such a call answers: a number, how many bytes, and the buffer's later contents.
abbrev pub read_as : ℕ → List ℕ → List ℕ → Read
read_as number bytes buffer = record { number = number; count = length bytes; buffer = buffer }

-- A hexadecimal line means the number of the first row that applies. "A refused line gives no bytes"; any other gives its bytes, two digits each.
pub record LineMeans (line : List ℕ) : Type 0 where
  pub number : (line_meaning line).number ≡ first_of (hex_rows line)
  pub no_bytes : eqb (first_of (hex_rows line)) 0 ≡ false → (line_meaning line).bytes ≡ []
  pub bytes : first_of (hex_rows line) ≡ 0 → (line_meaning line).bytes ≡ bytes_of line

-- A call that reads a line answers the number of the first row that applies. At a refusal it gives no bytes, and the lent buffer is as it came; else the
-- line's bytes stand at the buffer's start.
pub record ReadsLine (line buffer : List ℕ) : Type 0 where
  pub number : (read_into line buffer).number ≡ first_of (reading_rows line buffer)
  pub unchanged : eqb (first_of (reading_rows line buffer)) 0 ≡ false → read_into line buffer ≡ read_as (first_of (reading_rows line buffer)) [] buffer
  pub through : first_of (reading_rows line buffer) ≡ 0 → read_into line buffer ≡ read_as 0 (bytes_of line) (sets buffer 0 (bytes_of line))

pub record FirstDemand : Type 0 where
  pub limits : Limits
  pub default : DefaultPlan
  pub opens : (plan : Plan) (cycle : ℕ) → Opens plan cycle
  pub takes : (d : Decoder) (c : Call) → Takes d c
  pub as_before : (d : Decoder) (c : Call) → AsBefore d c
  pub means : (line : List ℕ) → LineMeans line
  pub reads : (line buffer : List ℕ) → ReadsLine line buffer

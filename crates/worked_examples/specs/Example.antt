-- A worked example: a state and buffers in numbers, bits on the line, and what a taking call then answers and leaves, in numbers.
-- Assumes nothing.
use Rattle.std.specs.Prelude.{List, [], ◌∷◌, ℕ, length, get_or, set, replicate}
use Rattle.decoder.specs.declared.Decoder.{Decoder}
use Rattle.calls.specs.declared.Report.{Report}
use Rattle.calls.specs.Take.{Call, call, take_of, ending_number}
use Rattle.calls.specs.Calls.{words_standing}
use Rattle.image_fields.specs.Image.{image_of, state_of}
use Rattle.host_results.specs.Take.{result_words}
use Rattle.worked_examples.specs.Table.{Table}
use Rattle.worked_examples.specs.CommandBits.{packed}
use Rattle.worked_examples.specs.Cells.{Place, image_at, store_at, tray_at, Cell}

-- The state and the buffers of an example.
pub record Buffers : Type 0 where
  pub image : List ℕ
  pub store : List ℕ
  pub tray : List ℕ

abbrev pub buffers : List ℕ → List ℕ → List ℕ → Buffers
buffers image store tray = record { image = image; store = store; tray = tray }

-- The default opening at cycle 0: layout 3, mask 07FF, CSR 0, FEEN 2, CNT 5, and all else 0. Zeros in the store and the tray.
abbrev pub opening : Buffers
opening = buffers (3 ∷ 0x07FF ∷ 0 ∷ 2 ∷ 5 ∷ replicate 65 0) (replicate 2048 0) (replicate 8192 0)

abbrev pub put : Place → ℕ → Buffers → Buffers
put (image_at at) n b = buffers (set b.image at n) b.store b.tray
put (store_at at) n b = buffers b.image (set b.store at n) b.tray
put (tray_at at) n b = buffers b.image b.store (set b.tray at n)

abbrev pub put_all : List Cell → Buffers → Buffers
put_all [] b = b
put_all (c ∷ cs) b = put_all cs (put c.place c.number b)

abbrev pub found : Place → Buffers → ℕ
found (image_at at) b = get_or b.image at 0
found (store_at at) b = get_or b.store at 0
found (tray_at at) b = get_or b.tray at 0

abbrev pub all_found : List Cell → Buffers → List ℕ
all_found [] b = []
all_found (c ∷ cs) b = found c.place b ∷ all_found cs b

abbrev pub numbers : List Cell → List ℕ
numbers [] = []
numbers (c ∷ cs) = c.number ∷ numbers cs

-- A row: what stands where ahead of the call, over the default opening; the bits on the line; the call's answer; the words of its records; and what
-- stands where afterwards.
pub record Row : Type 0 where
  pub before : List Cell
  pub line : List ℕ
  pub answer : List ℕ
  pub words : List ℕ
  pub after : List Cell

abbrev pub row : List Cell → List ℕ → List ℕ → List ℕ → List Cell → Row
row before line answer words after = record { before = before; line = line; answer = answer; words = words; after = after }

-- An answer: the refusal number, the bits taken, the records written, and the ending by its number for hosts.
abbrev pub done : ℕ → ℕ → List ℕ
done bits records = 0 ∷ bits ∷ records ∷ 0 ∷ []

abbrev pub frame : ℕ → ℕ → List ℕ
frame bits records = 0 ∷ bits ∷ records ∷ 1 ∷ []

abbrev pub full : ℕ → ℕ → List ℕ
full bits records = 0 ∷ bits ∷ records ∷ 2 ∷ []

abbrev pub refused : ℕ → List ℕ
refused number = number ∷ 0 ∷ 0 ∷ 0 ∷ []

-- What a row shows and what it is to show.
pub record Shown : Type 0 where
  pub answer : List ℕ
  pub words : List ℕ
  pub after : List ℕ

abbrev pub answer_of : Report → List ℕ
answer_of r = ending_number r.ending ∷ result_words r

-- All the bits in one call, with room for 16 records.
abbrev pub call_for : Buffers → List ℕ → Call
call_for b bits = call (packed bits) 0 (length bits) b.store b.tray (replicate 32 0) 0

abbrev pub shown_by : Decoder → Call → List Cell → Shown
shown_by d c after =
    let r = take_of d c in
    record {
      answer = answer_of r.taken.report;
      words = words_standing d c;
      after = all_found after (buffers (image_of r.taken.decoder) r.store r.tray);
    }

abbrev pub shown_from : Buffers → Row → Shown
shown_from b r = shown_by (state_of b.image) (call_for b r.line) r.after

abbrev pub shown : Row → Shown
shown r = shown_from (put_all r.before opening) r

abbrev pub expected : Row → Shown
expected r = record { answer = r.answer; words = r.words; after = numbers r.after }

-- A table of such rows, and how many it has.
abbrev pub Gives : ℕ → List Row → Type 0
Gives = Table shown expected

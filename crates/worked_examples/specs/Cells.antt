-- The places of an example where numbers stand: the state's words, FIFO words and frame bytes, each by its name.
-- Assumes nothing.
use Rattle.std.specs.Prelude.{List, [], ◌∷◌, ℕ, ◌+◌, ◌*◌}

-- Where a number stands: a word of the state's image, a word of the store, a byte of the tray.
pub data Place : Type 0 where
  image_at : ℕ → Place
  store_at : ℕ → Place
  tray_at : ℕ → Place

-- A place, with the number that is put there or found there.
pub record Cell : Type 0 where
  pub place : Place
  pub number : ℕ

abbrev pub cell : Place → ℕ → Cell
cell place number = record { place = place; number = number }

-- The words of the image where include/kernelstill.h has them. The plan: the mask and the addresses of CSR, FEEN and CNT.
abbrev pub mask : ℕ → Cell
mask n = cell (image_at 1) n

abbrev pub csr : ℕ → Cell
csr n = cell (image_at 2) n

abbrev pub feen : ℕ → Cell
feen n = cell (image_at 3) n

abbrev pub cnt : ℕ → Cell
cnt n = cell (image_at 4) n

-- The number of the next cycle.
abbrev pub next : ℕ → Cell
next n = cell (image_at 5) n

-- The recogniser: its phase (0 hunting, 1 body, 2 Field 3, 3 Field 4, 4 Field 5), the window or the bits received of a body, Field 3 or Field 4, Fields 3
-- and 4 once received, how many bits of the present field are received, the bits held of Field 5, those received of a front-end frame's present group of
-- eight, the latest lowest, and whether a finished group of the frame was unsteady.
abbrev pub phase : ℕ → Cell
phase n = cell (image_at 6) n

abbrev pub shift : ℕ → Cell
shift n = cell (image_at 7) n

abbrev pub command : ℕ → Cell
command n = cell (image_at 8) n

abbrev pub address : ℕ → Cell
address n = cell (image_at 9) n

abbrev pub count : ℕ → Cell
count n = cell (image_at 10) n

abbrev pub held : ℕ → Cell
held n = cell (image_at 11) n

abbrev pub group : ℕ → Cell
group n = cell (image_at 12) n

abbrev pub unsteady : ℕ → Cell
unsteady n = cell (image_at 13) n

-- The controller: RunMode, the counters and the warnings.
abbrev pub run_mode : ℕ → Cell
run_mode n = cell (image_at 14) n

abbrev pub l1id : ℕ → Cell
l1id n = cell (image_at 15) n

abbrev pub base : ℕ → Cell
base n = cell (image_at 16) n

abbrev pub wlv1 : ℕ → Cell
wlv1 n = cell (image_at 17) n

abbrev pub wfst : ℕ → Cell
wfst n = cell (image_at 18) n

abbrev pub wslw : ℕ → Cell
wslw n = cell (image_at 19) n

-- The earlier record: its time and its kind, 0 for none.
abbrev pub earlier_time : ℕ → Cell
earlier_time n = cell (image_at 20) n

abbrev pub earlier_kind : ℕ → Cell
earlier_kind n = cell (image_at 21) n

-- The registers and the FIFOs' pointers, 16 of each.
abbrev pub register : ℕ → ℕ → Cell
register address n = cell (image_at (22 + address)) n

abbrev pub write_pointer : ℕ → ℕ → Cell
write_pointer fifo n = cell (image_at (38 + fifo)) n

abbrev pub read_pointer : ℕ → ℕ → Cell
read_pointer fifo n = cell (image_at (54 + fifo)) n

-- Words of the image from a place on.
abbrev pub words_from : ℕ → List ℕ → List Cell
words_from at [] = []
words_from at (n ∷ ns) = cell (image_at at) n ∷ words_from (1 + at) ns

-- The registers from address 0 on, and the pointers of FIFO 0 on.
abbrev pub registers : List ℕ → List Cell
registers ns = words_from 22 ns

abbrev pub write_pointers : List ℕ → List Cell
write_pointers ns = words_from 38 ns

abbrev pub read_pointers : List ℕ → List Cell
read_pointers ns = words_from 54 ns

-- "FIFO n from word 128 × n"
abbrev pub word : ℕ → ℕ → ℕ → Cell
word fifo place n = cell (store_at (128 * fifo + place)) n

abbrev pub byte : ℕ → ℕ → Cell
byte place n = cell (tray_at place) n

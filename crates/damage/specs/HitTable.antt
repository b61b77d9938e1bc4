-- Streams with several inverted bits, in numbers (document 02, F-13).
-- Assumes nothing.
use Rattle.std.specs.Prelude.{◌≡◌, Bool, true, false, cond, ◌||◌, List, [], ◌∷◌, map, ℕ, ◌+◌, eqb}
use Rattle.bits.specs.Bits.{number_of}
use Rattle.recogniser.specs.Parts.{idle}
use Rattle.records.specs.Records.{record_words}
use Rattle.timing.specs.Table.{kind_bcr, kind_ecr}
use Rattle.timing.specs.TooClose.{none}
use Rattle.clean_streams.specs.Commands.{Command, lv1, bcr, ecr, cal, sync}
use Rattle.clean_streams.specs.CleanStreams.{Item, item_size, stream_bits, timed}
use Rattle.damage.specs.Hits.{HitCycles, inverted_at, apart_by_items}
use Rattle.damage.specs.Traces.{requests_of}
use Rattle.damage.specs.Records.{Ahead, ahead, clean_records, hit_records, performed}
use Rattle.damage.specs.Comparison.{may_differ}

-- Items, and the cycles whose bits are inverted. Then whether the stream keeps the timing table, and whether the hits lie far enough apart; whether the
-- trigger number, and the bunch number, may differ ahead of each item and at the end, a binary digit each; and the words of the clean records, of those that
-- `hit_records` gives, and of those that are read.
pub record HitRow : Type 0 where
  pub items : List Item
  pub cycles : List ℕ
  pub timely : Bool
  pub apart : Bool
  pub trigger : ℕ
  pub bunch : ℕ
  pub clean : List ℕ
  pub given : List ℕ
  pub read : List ℕ

abbrev item : ℕ → Command → Item
item zeros command = record { ahead = zeros; command = command }

-- Read as it is given, and otherwise.
abbrev holds : List Item → List ℕ → ℕ → ℕ → List ℕ → List ℕ → HitRow
holds items cycles trigger bunch clean read =
    record { items = items; cycles = cycles; timely = true; apart = true; trigger = trigger; bunch = bunch; clean = clean; given = read; read = read }

abbrev fails : List Item → List ℕ → ℕ → ℕ → List ℕ → List ℕ → List ℕ → HitRow
fails items cycles trigger bunch clean given read =
    record { items = items; cycles = cycles; timely = true; apart = false; trigger = trigger; bunch = bunch; clean = clean; given = given; read = read }

abbrev pub hit_table : List HitRow
hit_table =
    -- Four hits. SYNC's bit 2 leaves an exact LV1, so that later triggers count one more, the affected one too, up to the ECR; of the BCR a bad Fast is
    -- left and of the next ECR nothing, so that neither resets; the last BCR and ECR do.
    holds
    (item 2 lv1
    ∷ item 0 sync
    ∷ item 4 lv1
    ∷ item 0 lv1
    ∷ item 0 ecr
    ∷ item 0 lv1
    ∷ item 0 bcr
    ∷ item 0 lv1
    ∷ item 0 ecr
    ∷ item 0 lv1
    ∷ item 0 bcr
    ∷ item 0 lv1
    ∷ item 0 ecr
    ∷ item 0 lv1
    ∷ [])
    (8 ∷ 28 ∷ 50 ∷ 60 ∷ [])
    0b001110011111100
    0b001111111110000
    (0x060105 ∷ 0x006 ∷ 0x0F1801 ∷ 0 ∷ 0x180105 ∷ 0x118 ∷ 0x1D0105 ∷ 0x21D ∷ 0x261201 ∷ 0 ∷ 0x2B0105 ∷ 0x02B ∷ 0x341101 ∷ 0 ∷ 0x390105 ∷ 0x105
    ∷ 0x421201 ∷ 0 ∷ 0x470105 ∷ 0x013 ∷ 0x501101 ∷ 0 ∷ 0x550105 ∷ 0x105 ∷ 0x5E1201 ∷ 0 ∷ 0x630105 ∷ 0x013 ∷ [])
    (0x060105 ∷ 0x006 ∷ 0x0C0105 ∷ 0x10C ∷ 0x180105 ∷ 0x218 ∷ 0x1D0107 ∷ 0x4031D ∷ 0x261201 ∷ 0 ∷ 0x2B0105 ∷ 0x02B ∷ 0x341F00 ∷ 5 ∷ 0x390105 ∷ 0x139
    ∷ 0x470105 ∷ 0x247 ∷ 0x501101 ∷ 0 ∷ 0x550105 ∷ 0x305 ∷ 0x5E1201 ∷ 0 ∷ 0x630105 ∷ 0x013 ∷ [])
    -- Inverted zeros that affect none, each with a whole command after it; then a bit of a command.
    ∷ holds (item 4 lv1 ∷ item 3 lv1 ∷ item 0 lv1 ∷ []) (0 ∷ 10 ∷ 17 ∷ []) 0b0001 0b0001
    (0x080105 ∷ 0x008 ∷ 0x100105 ∷ 0x110 ∷ 0x150105 ∷ 0x215 ∷ [])
    (0x080105 ∷ 0x008 ∷ 0x100105 ∷ 0x110 ∷ 0x150107 ∷ 0x10215 ∷ [])
    -- CAL's bit 2, whose LV1 is too close to the SYNC before; and a zero two cycles ahead of a BCR.
    ∷ holds (item 0 sync ∷ item 0 cal ∷ item 0 lv1 ∷ item 2 bcr ∷ item 0 lv1 ∷ []) (10 ∷ 23 ∷ []) 0b001111 0b001111
    (0x081801 ∷ 0 ∷ 0x111401 ∷ 0 ∷ 0x160105 ∷ 0x016 ∷ 0x211101 ∷ 0 ∷ 0x260105 ∷ 0x105 ∷ [])
    (0x081801 ∷ 0 ∷ 0x0E0127 ∷ 0x5000E ∷ 0x160105 ∷ 0x116 ∷ 0x1B0107 ∷ 0x2021B ∷ 0x260105 ∷ 0x326 ∷ [])
    -- A bit of a command, and one of the zeros at the end.
    ∷ holds (item 0 lv1 ∷ item 1 lv1 ∷ []) (2 ∷ 12 ∷ []) 0b011 0b011
    (0x040105 ∷ 0x004 ∷ 0x0A0105 ∷ 0x10A ∷ [])
    (0x040107 ∷ 0x30004 ∷ 0x0A0105 ∷ 0x10A ∷ [])
    -- The premise is needed: two bits of one command; the first bits of two commands next to each other; a command's bit and the zero after it; two zeros
    -- that affect none; and a command between that a hit affects.
    ∷ fails (item 0 lv1 ∷ []) (0 ∷ 1 ∷ []) 0b01 0b01 (0x040105 ∷ 0x004 ∷ []) (0x040107 ∷ 0x10004 ∷ []) []
    ∷ fails (item 0 bcr ∷ item 0 lv1 ∷ []) (0 ∷ 9 ∷ []) 0b011 0b011
    (0x081101 ∷ 0 ∷ 0x0D0105 ∷ 0x005 ∷ [])
    (0x0D0107 ∷ 0x1000D ∷ [])
    (0x101801 ∷ 0 ∷ [])
    ∷ fails (item 0 bcr ∷ item 1 lv1 ∷ []) (0 ∷ 9 ∷ []) 0b011 0b011
    (0x081101 ∷ 0 ∷ 0x0E0105 ∷ 0x006 ∷ [])
    (0x0E0105 ∷ 0x00E ∷ [])
    (0x0C0107 ∷ 0x4000C ∷ [])
    ∷ fails (item 2 lv1 ∷ []) (0 ∷ 1 ∷ []) 0b00 0b00 (0x060105 ∷ 0x006 ∷ []) (0x060105 ∷ 0x006 ∷ []) (0x040107 ∷ 0x40004 ∷ [])
    ∷ fails (item 1 bcr ∷ item 0 lv1 ∷ []) (0 ∷ 10 ∷ []) 0b011 0b011
    (0x091101 ∷ 0 ∷ 0x0E0105 ∷ 0x005 ∷ [])
    (0x030107 ∷ 0x10003 ∷ 0x0E0107 ∷ 0x1010E ∷ [])
    (0x030107 ∷ 0x10003 ∷ 0x111801 ∷ 0 ∷ [])
    ∷ []

-- From cycle 0, both counters 0, no record before, each LV1 sent; five zeros at the end.
abbrev start : Ahead
start = ahead (record { l1id = 0; base = 0 }) none

abbrev hit_at : List ℕ → HitCycles
hit_at [] m = false
hit_at (c ∷ cs) m = eqb m c || hit_at cs m

abbrev digit : Bool → ℕ
digit b = cond b 1 0

abbrev where_differs : HitCycles → ℕ → Bool → ℕ → List Item → List ℕ
where_differs hits reset before n [] = digit before ∷ []
where_differs hits reset before n (i ∷ is) = digit before ∷ where_differs hits reset (may_differ hits reset n i before) (n + item_size i) is

abbrev computed : HitRow → HitRow
computed r = record {
  items = r.items;
  cycles = r.cycles;
  timely = timed r.items;
  apart = apart_by_items (hit_at r.cycles) false 0 r.items 5;
  trigger = number_of 0 (where_differs (hit_at r.cycles) kind_ecr false 0 r.items);
  bunch = number_of 0 (where_differs (hit_at r.cycles) kind_bcr false 0 r.items);
  clean = record_words (clean_records true start 0 r.items);
  given = record_words (hit_records true (hit_at r.cycles) start 0 r.items);
  read = record_words (performed true start 0 (requests_of idle (inverted_at (hit_at r.cycles) 0 (stream_bits r.items 5)))).records;
}

abbrev pub HitExamples : Type 0
HitExamples = map computed hit_table ≡ hit_table

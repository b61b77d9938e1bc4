-- What a taking call is lent, its refusals and its endings (document 01, "A taking call": the refusal table, numbers 3 to 6).
-- Assumes nothing.
use Rattle.std.specs.Prelude.{List, [], ◌∷◌, ℕ, replicate}
use Rattle.calls.specs.Take.{Call, call, take_of}
use Rattle.image_fields.specs.Image.{state_of}
use Rattle.worked_examples.specs.Cells.{Cell, next, run_mode, shift}
use Rattle.worked_examples.specs.Example.{opening, put_all, answer_of, done, frame, full, refused}

-- What a call is lent: the input, its first bit and count; the words of the store and the bytes of the tray; the list and its first free word.
pub record Lent : Type 0 where
  pub input : List ℕ
  pub first : ℕ
  pub count : ℕ
  pub store : ℕ
  pub tray : ℕ
  pub list : List ℕ
  pub free : ℕ

abbrev lent : List ℕ → ℕ → ℕ → ℕ → ℕ → List ℕ → ℕ → Lent
lent input first count store tray list free =
    record { input = input; first = first; count = count; store = store; tray = tray; list = list; free = free }

-- A row: the state, over the default opening; what the call is lent; its answer, as in `Example`; and the list afterwards.
pub record CallRow : Type 0 where
  pub before : List Cell
  pub lent : Lent
  pub answer : List ℕ
  pub list : List ℕ

abbrev call_row : List Cell → Lent → List ℕ → List ℕ → CallRow
call_row before l answer list = record { before = before; lent = l; answer = answer; list = list }

abbrev pub Answered : Type 0
Answered = List ℕ × List ℕ

abbrev pub call_of : Lent → Call
call_of l = call l.input l.first l.count (replicate l.store 0) (replicate l.tray 0) l.list l.free

abbrev pub call_shown : CallRow → Answered
call_shown r =
    let after = take_of (state_of (put_all r.before opening).image) (call_of r.lent) in
    (answer_of after.taken.report, after.list)

abbrev pub call_expected : CallRow → Answered
call_expected r = (r.answer, r.list)

-- A list of five words, all 7; and two LV1, 1110 1111 01.
abbrev sevens : List ℕ
sevens = 7 ∷ 7 ∷ 7 ∷ 7 ∷ 7 ∷ []

abbrev lv1s : List ℕ
lv1s = 0b11101111 ∷ 0b01000000 ∷ []

abbrev running : List Cell
running = run_mode 1 ∷ []

-- Each call is lent input, first bit and count; the lengths of store and tray; list and first free word.
abbrev pub table : List CallRow
table =
    -- "from its first free word on": 'done' with every bit taken, though the list is full then; 'list full' when bits remain
    call_row running (lent lv1s 0 10 2048 8192 sevens 1) (done 10 2) (7 ∷ 0x040105 ∷ 0x0004 ∷ 0x090105 ∷ 0x0109 ∷ [])
    ∷ call_row running (lent lv1s 0 11 2048 8192 sevens 1) (full 10 2) (7 ∷ 0x040105 ∷ 0x0004 ∷ 0x090105 ∷ 0x0109 ∷ [])
    ∷ call_row running (lent lv1s 0 10 2048 8192 sevens 2) (full 5 1) (7 ∷ 7 ∷ 0x040105 ∷ 0x0004 ∷ 7 ∷ [])
    ∷ call_row running (lent lv1s 0 1 2048 8192 sevens 4) (full 0 0) sevens
    ∷ call_row running (lent lv1s 0 1 2048 8192 sevens 3) (done 1 0) sevens
    -- a frame's record that fills the list: WrFrontEnd with CNT 0, and a bit more
    ∷ call_row [] (lent (0b10110101 ∷ 0b10100000 ∷ 0 ∷ []) 0 18 2048 8192 (7 ∷ 7 ∷ []) 0) (frame 17 1) (0x102401 ∷ 0 ∷ [])
    -- the range begins at its first bit, here the second LV1's
    ∷ call_row running (lent lv1s 5 5 2048 8192 sevens 0) (done 5 1) (0x040105 ∷ 0x0004 ∷ 7 ∷ 7 ∷ 7 ∷ [])
    -- "a count of 0 is 'done'", with no free word, and at the end of the input
    ∷ call_row running (lent lv1s 16 0 2048 8192 sevens 5) (done 0 0) sevens
    -- number 3
    ∷ call_row (shift 32 ∷ []) (lent lv1s 0 5 2048 8192 sevens 0) (refused 3) sevens
    -- number 4: "the store or tray has another length, or the first free word is past the list's end"
    ∷ call_row running (lent lv1s 0 5 2047 8192 sevens 0) (refused 4) sevens
    ∷ call_row running (lent lv1s 0 5 2049 8192 sevens 0) (refused 4) sevens
    ∷ call_row running (lent lv1s 0 5 2048 8191 sevens 0) (refused 4) sevens
    ∷ call_row running (lent lv1s 0 5 2048 8193 sevens 0) (refused 4) sevens
    ∷ call_row running (lent lv1s 0 5 2048 8192 sevens 6) (refused 4) sevens
    -- number 5, "the range passes its end"; inputs at their limit are in `RangeTable`
    ∷ call_row running (lent lv1s 0 16 2048 8192 sevens 1) (full 10 2) (7 ∷ 0x040105 ∷ 0x0004 ∷ 0x090105 ∷ 0x0109 ∷ [])
    ∷ call_row running (lent lv1s 0 17 2048 8192 sevens 1) (refused 5) sevens
    ∷ call_row running (lent lv1s 7 10 2048 8192 sevens 1) (refused 5) sevens
    ∷ call_row running (lent lv1s 17 0 2048 8192 sevens 1) (refused 5) sevens
    ∷ call_row running (lent (replicate 65536 0) 524288 0 2048 8192 sevens 0) (done 0 0) sevens
    ∷ call_row running (lent (replicate 65536 0) 524287 2 2048 8192 sevens 0) (refused 5) sevens
    ∷ call_row running (lent (replicate 65537 0) 0 1 2048 8192 sevens 0) (done 1 0) sevens
    -- number 6, "next cycle + count exceeds 2^48": "From cycle 2^48 - 1 one bit is taken; two are number 6."
    ∷ call_row (next 0xFFFFFFFFFFFF ∷ []) (lent lv1s 0 1 2048 8192 sevens 0) (done 1 0) sevens
    ∷ call_row (next 0xFFFFFFFFFFFF ∷ []) (lent lv1s 0 2 2048 8192 sevens 0) (refused 6) sevens
    ∷ call_row (next 0x1000000000000 ∷ []) (lent lv1s 0 0 2048 8192 sevens 0) (done 0 0) sevens
    ∷ call_row (next 0x1000000000000 ∷ []) (lent lv1s 0 1 2048 8192 sevens 0) (refused 6) sevens
    -- "the lowest number wins": 3 ahead of 4, 4 ahead of 5, 5 ahead of 6
    ∷ call_row (shift 32 ∷ []) (lent lv1s 0 5 2047 8192 sevens 0) (refused 3) sevens
    ∷ call_row running (lent lv1s 0 17 2048 8191 sevens 0) (refused 4) sevens
    ∷ call_row (next 0x1000000000000 ∷ []) (lent lv1s 0 17 2048 8192 sevens 0) (refused 5) sevens
    ∷ []

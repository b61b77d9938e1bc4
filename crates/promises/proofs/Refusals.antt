-- The first demand, proved: the tests of the definitions are the rows of the table.
-- Assumes nothing.
use mathlib.Core.Path.{◌≡◌, ◌∙◌, refl, sym, ap, ap₂}
use mathlib.Core.Bool.{Bool, true, false, cond, not, ◌&&◌, ◌||◌}
use mathlib.Core.List.{List, [], ◌∷◌}
use Prim.Native.Nat.{ℕ, zero, suc, ◌+◌, ◌*◌, ◌-◌, ◌%◌, ◌<◌}
use native.Mathlib.Omega.{arith}
use lib.Dec.{leb, ltb, eqb}
use lib.ListN.{length}
use lib.Seq.{sets}
use borrow.Author.Tests.{le-leb, lt-leb, ltb-true, ltb-false}
use Rattle.bits.proofs.Truth.{clash}
use Rattle.limits.specs.Limits.{clock_limit, store_length, tray_length, input_limit}
use Rattle.plans.specs.declared.Plan.{Plan}
use Rattle.plans.specs.Plan.{exists_at, plan_fits}
use Rattle.plans.proofs.DefaultPlan.{default_numbers}
use Rattle.decoder.specs.declared.Decoder.{Decoder}
use Rattle.decoder.specs.Opening.{open_of}
use Rattle.decoder.specs.Sound.{sound_of}
use Rattle.calls.specs.declared.Ending.{Ending}
use Rattle.calls.specs.declared.Ending.TheVariants.{Unsound, WrongBuffers, WrongRange, ClockOver}
use Rattle.calls.specs.Turn.{turn_of}
use Rattle.calls.specs.Take.{Call, CallResult, offered, lent, refused, clock_fits, taken_of, take_of, ending_number}
use Rattle.calls.proofs.RunEndings.{run_ended}
use Rattle.calls.proofs.Refusals.{buffers, range, unsound, wrong_buffers, wrong_range, clock_over, taken, limits_agree}
use Rattle.line_meanings.specs.Digits.{is_digit, all_digits, bytes_of}
use Rattle.line_meanings.specs.Line as lines
use Rattle.line_meanings.specs.Line.{LineMeaning, Read, count_fits, line_meaning, read_of, read_into}
use Rattle.promises.specs.Refusals.{first_of, three_in_mask, three_differ, taking_rows, wrong_character, some_wrong, hex_rows, reading_rows, read_as}
use Rattle.promises.specs.Refusals.{Opens, Takes, AsBefore, LineMeans, ReadsLine, FirstDemand}

-- tests turned round
not_leb_by : (a b : ℕ) (t : Bool) → ltb b a ≡ t → not (leb a b) ≡ ltb b a
not_leb_by a b true e = ap not (lt-leb a b (ltb-true b a e)) ∙ sym e
not_leb_by a b false e = ap not (le-leb a b (ltb-false b a e)) ∙ sym e

pub not_leb : (a b : ℕ) → not (leb a b) ≡ ltb b a
not_leb a b = not_leb_by a b (ltb b a) refl

pub not_and : (a b : Bool) → not (a && b) ≡ (not a || not b)
not_and true b = refl
not_and false b = refl

-- The plan's test.
plan_by : (a b c x y z : Bool) → (a && (b && (c && (not x && (not y && not z))))) ≡ ((a && (b && c)) && not (x || (y || z)))
plan_by false b c x y z = refl
plan_by true false c x y z = refl
plan_by true true false x y z = refl
plan_by true true true true y z = refl
plan_by true true true false true z = refl
plan_by true true true false false z = refl

pub plan_row : (plan : Plan) → plan_fits plan ≡ (three_in_mask plan && three_differ plan)
unfolding plan_fits
plan_row plan =
    plan_by (exists_at plan plan.csr) (exists_at plan plan.feen) (exists_at plan plan.cnt)
    (eqb plan.csr plan.feen) (eqb plan.csr plan.cnt) (eqb plan.feen plan.cnt)

opens_by : (plan : Plan) (cycle : ℕ) (p q : Bool) → plan_fits plan ≡ p → (three_in_mask plan && three_differ plan) ≡ p → leb clock_limit cycle ≡ q → Opens plan cycle
unfolding open_of
opens_by plan cycle false q e f g = record { number = rw (e, f); state = rw (e, f) }
opens_by plan cycle true true e f g = record { number = rw (e, f, g); state = rw (e, f, g) }
opens_by plan cycle true false e f g = record { number = rw (e, f, g); state = rw (e, f, g) }

opens : (plan : Plan) (cycle : ℕ) → Opens plan cycle
opens plan cycle = opens_by plan cycle (plan_fits plan) (leb clock_limit cycle) refl (sym (plan_row plan)) refl

-- The taking call's rows, by the four tests.
abbrev first_by : Bool → Bool → Bool → Bool → ℕ
first_by s b r k = cond (not s) 3 (cond (not b) 4 (cond (not r) 5 (cond (not k) 6 0)))

module _ (d : Decoder) (c : Call) where
  abbrev clock : Bool
  clock = clock_fits d.next c.count

  buffers_row : not (buffers c) ≡ (not (eqb (length c.store) store_length) || (not (eqb (length c.tray) tray_length) || ltb (length c.list) c.free))
  buffers_row =
      not_and (eqb (length c.store) store_length) _
      ∙ ap (λ t. not (eqb (length c.store) store_length) || t)
      (not_and (eqb (length c.tray) tray_length) _ ∙ ap (λ t. not (eqb (length c.tray) tray_length) || t) (not_leb c.free (length c.list)))

  range_row_lem : not (range c) ≡ (ltb input_limit (length c.input) || ltb (8 * length c.input) (c.first + c.count))
  range_row_lem =
      not_and (leb (length c.input) input_limit) _
      ∙ ap (λ t. t || not (leb (c.first + c.count) (8 * length c.input))) (not_leb (length c.input) input_limit)
      ∙ ap (λ t. ltb input_limit (length c.input) || t) (not_leb (c.first + c.count) (8 * length c.input))

  rows : first_by (sound_of d) (buffers c) (range c) clock ≡ first_of (taking_rows d c)
  rows = λ i. cond (not (sound_of d)) 3 (cond (buffers_row i) 4 (cond (range_row_lem i) 5 (cond (not_leb (d.next + c.count) clock_limit i) 6 0)))

  record Says (n : ℕ) : Type 0 where
    number : ending_number (take_of d c).taken.report.ending ≡ n
    rejected : eqb n 0 ≡ false → (ending : Ending) × (take_of d c ≡ refused d c ending)
    through : n ≡ 0 → take_of d c ≡ taken_of d c

  -- a refusal
  turned : (e : Ending) → eqb (ending_number e) 0 ≡ false → take_of d c ≡ refused d c e → Says (ending_number e)
  turned e h t = record {
    number = ap (λ (l : CallResult). ending_number l.taken.report.ending) t;
    rejected = λ _. (e, t);
    through = λ z. let f : true ≡ false = sym (ap (λ n. eqb n 0) z) ∙ h in absurd (true_false f);
  }
    where
      true_false : true ≡ false → ⊥
      true_false q = let z : ◌≡◌ {A = ℕ} 0 1 = cc in omega arith

  says : (s b r k : Bool) → sound_of d ≡ s → buffers c ≡ b → range c ≡ r → clock ≡ k → Says (first_by s b r k)
  unfolding taken_of
  says false b r k es eb er ek = turned Unsound refl (unsound d c es)
  says true false r k es eb er ek = turned WrongBuffers refl (wrong_buffers d c es eb)
  says true true false k es eb er ek = turned WrongRange refl (wrong_range d c es eb er)
  says true true true false es eb er ek = turned ClockOver refl (clock_over d c es eb er ek)
  says true true true true es eb er ek = record {
    number = ap (λ (l : CallResult). ending_number l.taken.report.ending) (taken d c es eb er ek)
        ∙ (run_ended turn_of (offered c) (lent d c) (length c.list - c.free)).fits;
    rejected = λ h. let z : ◌≡◌ {A = ℕ} 0 1 = cc in absurd (omega arith);
    through = λ _. taken d c es eb er ek;
  }

  takes : Takes d c
  takes =
      let t = says (sound_of d) (buffers c) (range c) clock refl refl refl refl in
      record {
        number = t.number ∙ rows;
        rejected = λ h. t.rejected (ap (λ n. eqb n 0) rows ∙ h);
        through = λ h. t.through (rows ∙ h);
      }

-- Up to the old limit neither limit is passed.
as_before : (d : Decoder) (c : Call) → AsBefore d c
unfolding take_of
as_before d c h = limits_agree d c input_limit _ (omega (arith, h)) h

-- A line's rows, by its two tests.
digits_row : (line : List ℕ) → not (all_digits line) ≡ some_wrong line
digits_row [] = refl
digits_row (c ∷ cs) = not_and (is_digit c) (all_digits cs) ∙ ap (λ t. wrong_character c || t) (digits_row cs)

odd_by : (n : ℕ) → n < 2 → not (eqb n 0) ≡ eqb n 1
odd_by zero h = refl
odd_by (suc zero) h = refl
odd_by (suc (suc n)) h = absurd (omega arith)

count_row : (n : ℕ) → not (count_fits n) ≡ (eqb (n % 2) 1 || ltb 64 n)
count_row n =
    not_and (eqb (n % 2) 0) (leb n 64)
    ∙ (λ i. odd_by (n % 2) (omega arith) i || not_leb n 64 i)

-- A refusal, and a line that is fit.
record Line (line : List ℕ) : Type 0 where
  refusal : ℕ
  bytes : List ℕ
  meaning : line_meaning line ≡ record { number = refusal; bytes = bytes }
  first : first_of (hex_rows line) ≡ refusal
  none : eqb refusal 0 ≡ false → bytes ≡ []
  all : refusal ≡ 0 → bytes ≡ bytes_of line

line_refused : (line : List ℕ) (n : ℕ) → eqb n 0 ≡ false → line_meaning line ≡ lines.refused n → first_of (hex_rows line) ≡ n → Line line
line_refused line n some e f = record {
  refusal = n;
  bytes = [];
  meaning = e;
  first = f;
  none = λ _. refl;
  all = λ z. clash (ap (λ n. eqb n 0) z) some;
}

line_fits : (line : List ℕ) → line_meaning line ≡ record { number = 0; bytes = bytes_of line } → first_of (hex_rows line) ≡ 0 → Line line
line_fits line e f = record { refusal = 0; bytes = bytes_of line; meaning = e; first = f; none = λ z. clash refl z; all = λ _. refl }

line_by : (line : List ℕ) (a b : Bool) → all_digits line ≡ a → count_fits (length line) ≡ b
    → some_wrong line ≡ not a → (eqb (length line % 2) 1 || ltb 64 (length line)) ≡ not b → Line line
unfolding line_meaning
line_by line false b e f g h = line_refused line 7 refl (rw e) (rw g)
line_by line true false e f g h = line_refused line 8 refl (rw (e, f)) (rw (g, h))
line_by line true true e f g h = line_fits line (rw (e, f)) (rw (g, h))

line_is : (line : List ℕ) → Line line
line_is line = line_by line (all_digits line) (count_fits (length line)) refl refl (sym (digits_row line)) (sym (count_row (length line)))

means : (line : List ℕ) → LineMeans line
means line =
    let l = line_is line in
    record {
      number = ap (λ (m : LineMeaning). m.number) l.meaning ∙ sym l.first;
      no_bytes = λ some. ap (λ (m : LineMeaning). m.bytes) l.meaning ∙ l.none (ap (λ n. eqb n 0) (sym l.first) ∙ some);
      bytes = λ z. ap (λ (m : LineMeaning). m.bytes) l.meaning ∙ l.all (sym l.first ∙ z);
    }

module _ (line buffer : List ℕ) where
  -- what a call answers, and leaves of a buffer that is long enough
  abbrev into : ℕ → List ℕ → Read
  into number bytes = read_as number bytes (sets buffer 0 bytes)

  read_as_lem : (l : Line line) → read_of line buffer ≡ into l.refusal l.bytes
  unfolding read_of
  read_as_lem l = ap (λ (m : LineMeaning). into m.number m.bytes) l.meaning

  reads_by : (short : Bool) → ltb (length buffer) 32 ≡ short → (l : Line line) → ReadsLine line buffer
  unfolding read_into
  reads_by true h l = record {
    number = rw h;
    unchanged = λ _. rw h;
    through = λ z. let four : first_of (reading_rows line buffer) ≡ 4 = rw h in clash (ap (λ n. eqb n 0) (sym four ∙ z)) refl;
  }
  reads_by false h l =
      let first : first_of (reading_rows line buffer) ≡ l.refusal = rw h l.first in
      let read : read_into line buffer ≡ into l.refusal l.bytes = rw h (read_as_lem l) in
      record {
        number = ap (λ (r : Read). r.number) read ∙ sym first;
        unchanged = λ some. read ∙ ap₂ into (sym first) (l.none (ap (λ n. eqb n 0) (sym first) ∙ some));
        through = λ z. read ∙ ap₂ into (sym first ∙ z) (l.all (sym first ∙ z));
      }

  reads : ReadsLine line buffer
  reads = reads_by (ltb (length buffer) 32) refl (line_is line)

pub first_demand : FirstDemand
first_demand = record {
  limits = record { clock = refl; store = refl; tray = refl; input = refl; unit = refl };
  default = default_numbers;
  opens = opens;
  takes = takes;
  as_before = as_before;
  means = means;
  reads = reads;
}

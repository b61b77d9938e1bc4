-- Parts of the stream received one after the other, and what the loop over a block keeps.
-- Assumes nothing.
use mathlib.Core.Path.{◌≡◌, ◌∙◌, refl, sym, ap}
use mathlib.Core.Bool.{Bool, true, false, not, ◌&&◌, ◌||◌, or-true, or-false}
use mathlib.Core.List.{List, []}
use Prim.Native.Nat.{ℕ, ◌<◌}
use native.Mathlib.Omega.{arith}
use lib.Dec.{ltb, eqb}
use lib.ListN.{length}
use borrow.Author.Tests.{eq-eqb, eqb-true, ltb-true, not-true, not-false}
use Rattle.bits.proofs.Truth.{choice, both, neither, clash}
use Rattle.replies.specs.Said.{Reply}
use Rattle.replies.specs.Said.{Whole}
use Rattle.replies.specs.declared.Reception.{Reception}
use Rattle.replies.specs.Replies.{reply_verdict, reply_bits}
use Rattle.replies.specs.Reception.{Received, is_whole, after_of, said_of}
use Rattle.replies.proofs.Kept.{none_more, whole_stays, part_by_part}
use Rattle.line_meanings.specs.declared.LineNotes.{LineNotes}
use Rattle.line_meanings.specs.Notes.{no_notes}
use Rattle.hex_streams.specs.declared.StreamSoFar.{StreamSoFar}
use Rattle.hex_streams.specs.declared.StreamPart.{StreamPart}
use Rattle.hex_streams.specs.Streams.{HexStream}
use Rattle.hex_streams.specs.SoFar as stream
use Rattle.hex_streams.specs.SoFar.{stream_end, part_bits, ReadsOn}
use Rattle.hex_streams.proofs.Rest.{refused}
use Rattle.hex_streams.proofs.Runs.{ReadTo, TakesPart, at_first, read_on, read_through, at_last}
use Rattle.reply_reports.specs.declared.Report.{Report}
use Rattle.reply_reports.specs.Report.{report, report_by, ReplyRead, reply_read}
use Rattle.replying.specs.declared.Replying.{Replying}
use Rattle.replying.specs.Replying.{is_over, ReplyRun, received_in, said_on, still_read, report_of, WellFormed, Receives, ReceivesBlock, EndsInput}

abbrev run_stream : ReplyRun → StreamSoFar
run_stream r = r.state.stream

-- What is said of a reception, with what else comes of the stream.
abbrev said_by : ℕ → HexStream → Received → ReplyRead
said_by expected rest after = reply_read (report_by expected (said_of after.reception) rest) after.buffer

-- A part's bits go from what still comes to the reception.
takes : {s r : ReplyRun} {part : StreamPart} → Receives s part r → TakesPart run_stream said_on s part r
takes {s} {r} {part} j = record {
  stream = j.stream;
  said = λ rest.
      ap (λ (n : ℕ). said_by n rest (after_of (received_in r) rest.bits)) j.expected
      ∙ ap (said_by s.state.expected rest)
      (ap (λ (q : Received). after_of q rest.bits) j.after ∙ sym (part_by_part (part_bits part) rest.bits (received_in s)));
}

-- A whole reply is said, whatever comes.
whole_said : (s : Reception) → is_whole s ≡ true → said_of s ≡ Whole
whole_said s e = let b = both s.found (eqb s.cycles s.total) e in rw (b.0, b.1)

whole_over : (s : ReplyRun) (a b : List ℕ) → is_whole s.state.reception ≡ true → still_read s a ≡ still_read s b
whole_over s a b e =
    let said : (rest : HexStream) → said_on s rest ≡ reply_read (report s.state.expected Whole 0 0 no_notes) s.buffer =
    λ rest. ap (said_by s.state.expected rest) (whole_stays (received_in s) rest.bits e) ∙ rw (whole_said s.state.reception e) in
    said (stream.rest_of (run_stream s) a) ∙ sym (said (stream.rest_of (run_stream s) b))

line_over : (s : ReplyRun) (a b : List ℕ) → ((run_stream s).number ≡ 0 → ⊥) → still_read s a ≡ still_read s b
line_over s a b n = ap (said_on s) (refused (run_stream s) a n ∙ sym (refused (run_stream s) b n))

over_by : (s : ReplyRun) (a b : List ℕ) (whole line : Bool) → is_whole s.state.reception ≡ whole → eqb (run_stream s).number 0 ≡ line
    → (whole || not line) ≡ true → still_read s a ≡ still_read s b
over_by s a b true line w l e = whole_over s a b w
over_by s a b false line w l e = line_over s a b (λ z. clash (eq-eqb (run_stream s).number 0 z) (l ∙ not-true line e))

pub over_said : (s : ReplyRun) (a b : List ℕ) → is_over s.state ≡ true → still_read s a ≡ still_read s b
over_said s a b e = over_by s a b (is_whole s.state.reception) (eqb (run_stream s).number 0) refl refl e

-- What is said if the run ends here.
pub here_said : (s : ReplyRun) → said_on s (stream_end (run_stream s)) ≡ reply_read (report_of s.state) s.buffer
here_said s =
    let none : (r : HexStream) → r.bits ≡ [] → said_on s r ≡ said_by s.state.expected r (received_in s) =
    λ r e. ap (said_by s.state.expected r) (ap (after_of (received_in s)) e ∙ none_more (received_in s)) in
    none (stream_end (run_stream s)) (choice (λ (r : HexStream). r.bits ≡ []) (eqb (run_stream s).number 0) (λ _. refl) (λ _. refl))

-- The same by the reception's answer, and by a refused line.
module _ (s : Replying) (verdict bits : ℕ) (told : verdict ≡ reply_verdict (said_of s.reception))
    (many : bits ≡ reply_bits s.expected (said_of s.reception)) where
  abbrev said : ℕ → ℕ → LineNotes → Report
  said number line notes = record { verdict = verdict; bits = bits; expected = s.expected; number = number; line = line; notes = notes }

  as_told : (number line : ℕ) (notes : LineNotes) → said number line notes ≡ report s.expected (said_of s.reception) number line notes
  as_told number line notes = λ i.
      record { verdict = told i; bits = many i; expected = s.expected; number = number; line = line; notes = notes }

  answered : (number : Bool) → eqb s.stream.number 0 ≡ number → (eqb verdict 0 || number) ≡ true
      → report s.expected (said_of s.reception) 0 0 no_notes ≡ report_of s
  answered true z e = rw (z, or-true)
  answered false z e = simp (z, sym (ap (λ (v : ℕ). eqb v 0) told) ∙ sym (or-false (eqb verdict 0)) ∙ e)

  pub by_reply : (eqb verdict 0 || eqb s.stream.number 0) ≡ true → said 0 0 no_notes ≡ report_of s
  by_reply e = as_told 0 0 no_notes ∙ answered (eqb s.stream.number 0) refl e

  pub by_line_lem : (eqb verdict 0 || eqb s.stream.number 0) ≡ false → said s.stream.number s.stream.lines s.stream.line.notes ≡ report_of s
  by_line_lem e =
      let n = neither (eqb verdict 0) (eqb s.stream.number 0) e in
      let other = sym (ap (λ (v : ℕ). eqb v 0) told) ∙ n.0 in
      as_told s.stream.number s.stream.lines s.stream.line.notes ∙ simp (n.1, other)

-- The loop over a block, and its test.
pub test : (next size : ℕ) (s : Replying) (over : Bool) → over ≡ is_over s → (ltb next size && not over) ≡ true → (next < size) × (s.stream.number ≡ 0)
test next size s over o e =
    let b = both (ltb next size) (not over) e in
    let n = neither (is_whole s.reception) (not (eqb s.stream.number 0)) (sym o ∙ not-true over b.1) in
    (ltb-true next size b.0, eqb-true s.stream.number 0 (not-false (eqb s.stream.number 0) n.1))

pub record Invariant (from : ReplyRun) (input : List ℕ) (next : ℕ) (s : ReplyRun) : Type 0 where
  pub well_formed : WellFormed s.state
  pub read : ReadTo still_read from input next s
  pub long : length s.buffer ≡ length from.buffer

module _ {from : ReplyRun} {input : List ℕ} where
  pub initially : WellFormed from.state → Invariant from input 0 from
  initially w = record { well_formed = w; read = at_first run_stream said_on from input; long = refl }

  module _ {next : ℕ} {s : ReplyRun} (i : Invariant from input next s) where
    pub goes_on : {part : StreamPart} {r : ReplyRun} → ReadsOn (run_stream s) input next part → Receives s part r → length r.buffer ≡ length s.buffer
        → Invariant from input part.next r
    goes_on {part} {r} reads j long = record {
      well_formed = j.well_formed;
      read = read_on run_stream said_on from input next s i.read part r reads (takes j);
      long = long ∙ i.long;
    }

    pub stops : (over : Bool) → over ≡ is_over s.state → (ltb next (length input) && not over) ≡ false → ReceivesBlock from input s
    stops over o e = record {
      well_formed = i.well_formed;
      same = read_through run_stream said_on from input next s i.read over (λ t a b. over_said s a b (sym o ∙ t)) e;
    }

-- The input's end.
pub ends : {s r : ReplyRun} {part : StreamPart} → stream.EndsInput (run_stream s) part → Receives s part r → EndsInput s r
ends {s} {r} {part} e j = record { well_formed = j.well_formed; same = sym (here_said r) ∙ at_last run_stream said_on s part r e (takes j) }

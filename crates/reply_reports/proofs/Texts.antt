-- What a report prints and says, by its number; each fits a block.
-- Assumes nothing.
use mathlib.Core.Path.{◌≡◌, ◌∙◌, refl, sym, ap}
use mathlib.Core.Bool.{true, false}
use mathlib.Core.List.{List, [], ◌∷◌, ◌++◌}
use Prim.Native.Nat.{ℕ, ◌+◌, ◌*◌, ◌/◌, ◌<◌, ◌≤◌}
use native.Mathlib.Omega.{arith}
use lib.Dec.{leb, eqb}
use lib.ListN.{length, length-take, length-append}
use borrow.Author.Tests.{le-leb, lt-leb, eq-eqb, ne_eqb}
use Rattle.bits.proofs.Truth.{choice}
use Rattle.frames.specs.Tray.{part_of}
use Rattle.output.specs.Ascii.{ascii}
use Rattle.output.specs.Block.{block_length, Block, put_all, put_if_fits}
use Rattle.output.proofs.Pieces.{put_when_fits}
use Rattle.number_lines.specs.NumberLines.{line_of}
use Rattle.number_lines.proofs.LineLengths.{line_length}
use Rattle.byte_lines.specs.ByteLines.{frame_line}
use Rattle.byte_lines.proofs.LineLengths.{frame_length}
use Rattle.layout.specs.ListingLines.{refused_line}
use Rattle.decimal_digits.specs.Decimal.{labelled}
use Rattle.decimal_digits.proofs.Lengths.{labelled_length}
use Rattle.messages.specs.Sentences.{sentence_of}
use Rattle.messages.proofs.Lengths.{sentence_short}
use Rattle.reply_reports.specs.declared.Report.{Report}
use Rattle.reply_reports.specs.Report.{whole_report, verdict_line, data_line, reason_of, ReplyRead, text_of, message_of}

-- A verdict's line, by the verdict.
pub whole_line : (verdict bits : ℕ) → verdict ≡ 0 → verdict_line verdict bits ≡ line_of (ascii "whole ") (bits ∷ []) (4 ∷ [])
unfolding verdict_line
whole_line verdict bits z = simp (eq-eqb verdict 0 z)

pub no_header_line : (verdict bits : ℕ) → (verdict ≡ 0 → ⊥) → verdict ≡ 1 → verdict_line verdict bits ≡ ascii "no header\n"
unfolding verdict_line
no_header_line verdict bits n z = simp (ne_eqb verdict 0 n, eq-eqb verdict 1 z)

pub cut_short_line : (verdict bits : ℕ) → (verdict ≡ 0 → ⊥) → (verdict ≡ 1 → ⊥) → verdict_line verdict bits ≡ line_of (ascii "cut short ") (bits ∷ []) (4 ∷ [])
unfolding verdict_line
cut_short_line verdict bits n m = simp (ne_eqb verdict 0 n, ne_eqb verdict 1 m)

-- Such a line fits a block.
pub counted_put : (lead : List ℕ) (bits : ℕ) (out : List ℕ) {after : Block} {text : List ℕ} → length lead ≤ 10 → length out ≡ block_length
    → text ≡ line_of lead (bits ∷ []) (4 ∷ []) → after ≡ put_if_fits out 0 (line_of lead (bits ∷ []) (4 ∷ [])) → after ≡ put_all out 0 text
counted_put lead bits out short long t e =
    let few = line_length lead (bits ∷ []) (4 ∷ []) refl in
    e ∙ put_when_fits out 0 (line_of lead (bits ∷ []) (4 ∷ [])) (omega (arith, few, short, long)) ∙ ap (put_all out 0) (sym t)

-- How long the pieces are.
pub verdict_short : (verdict bits : ℕ) → length (verdict_line verdict bits) ≤ 15
unfolding verdict_line
verdict_short verdict bits =
    choice (λ (text : List ℕ). length text ≤ 15) (eqb verdict 0) (λ _. omega (arith, line_length (ascii "whole ") (bits ∷ []) (4 ∷ []) refl))
    (λ _. choice (λ (text : List ℕ). length text ≤ 15) (eqb verdict 1) (λ _. omega arith)
    (λ _. omega (arith, line_length (ascii "cut short ") (bits ∷ []) (4 ∷ []) refl)))

part_short : (buffer : List ℕ) (bits : ℕ) → length (part_of buffer bits) ≤ length buffer
part_short buffer bits =
    choice (λ (part : List ℕ). length part ≤ length buffer) (leb bits (8 * length buffer))
    (λ _. omega (arith, length-take ((bits + 7) / 8) buffer)) (λ _. omega arith)

pub data_short : (bits : ℕ) (buffer : List ℕ) → length (data_line bits buffer) ≤ 2 * length buffer + 2
unfolding data_line
data_short bits buffer =
    choice (λ (text : List ℕ). length text ≤ 2 * length buffer + 2) (eqb bits 0) (λ _. omega arith)
    (λ _. omega (arith, frame_length (part_of buffer bits), part_short buffer bits))

-- The data bits: none, or a frame's line.
pub no_data : (bits : ℕ) (buffer : List ℕ) → bits ≡ 0 → data_line bits buffer ≡ []
unfolding data_line
no_data bits buffer z = simp (eq-eqb bits 0 z)

pub some_data : (bits : ℕ) (buffer : List ℕ) → (bits ≡ 0 → ⊥) → data_line bits buffer ≡ frame_line (part_of buffer bits)
unfolding data_line
some_data bits buffer n = simp (ne_eqb bits 0 n)

-- A report's text, by its number.
module _ (r : ReplyRead) where
  abbrev number : ℕ
  number = r.report.number

  line_text : 7 ≤ number → text_of r ≡ refused_line number r.report.line
  unfolding text_of
  line_text h = simp (le-leb 7 number h)

  pub no_text : number < 7 → (number ≡ 0 → ⊥) → text_of r ≡ []
  unfolding text_of
  no_text h n = simp (lt-leb 7 number h, ne_eqb number 0 n)

  abbrev pub verdict : List ℕ
  verdict = verdict_line r.report.verdict r.report.bits

  abbrev pub bytes : List ℕ
  bytes = data_line r.report.bits r.buffer

  pub reply_text : number ≡ 0 → text_of r ≡ verdict ++ bytes
  unfolding text_of
  reply_text z = simp (lt-leb 7 number (omega (arith, z)), eq-eqb number 0 z)

  module _ (out : List ℕ) (long : length out ≡ block_length) where
    pub line_put : {after : Block} → 7 ≤ number → after ≡ put_if_fits out 0 (refused_line number r.report.line) → after ≡ put_all out 0 (text_of r)
    line_put h e =
        let few = line_length (ascii "!") (number ∷ r.report.line ∷ []) (2 ∷ 8 ∷ []) refl in
        e ∙ put_when_fits out 0 (refused_line number r.report.line) (omega (arith, few, long)) ∙ ap (put_all out 0) (sym (line_text h))

    pub reply_fits : length r.buffer ≤ 1024 → 0 + length (verdict ++ bytes) ≤ length out
    reply_fits h =
        let v = verdict_short r.report.verdict r.report.bits in
        let d = data_short r.report.bits r.buffer in
        omega (arith, length-append verdict bytes, v, d, h, long)

-- A report's sentence.
module _ (p : Report) where
  pub no_message : whole_report p ≡ true → message_of p ≡ []
  unfolding message_of
  no_message w = rw w

  pub reason_message : whole_report p ≡ false → p.number ≡ 0 → message_of p ≡ reason_of p.verdict p.bits p.expected
  unfolding message_of
  reason_message w z = rw w (rw (eq-eqb p.number 0 z))

  pub line_message : whole_report p ≡ false → (p.number ≡ 0 → ⊥) → message_of p ≡ sentence_of p.number p.line p.notes
  unfolding message_of
  line_message w n = rw w (rw (ne_eqb p.number 0 n))

-- Why a reply is not whole.
pub no_header_reason : (verdict bits expected : ℕ) → verdict ≡ 1 → reason_of verdict bits expected ≡ ascii "no header 11101\n"
unfolding reason_of
no_header_reason verdict bits expected z = simp (eq-eqb verdict 1 z)

abbrev pub how_many : ℕ → List ℕ
how_many bits = labelled (ascii "cut short: ") bits (ascii " of ")

abbrev pub of_how_many : ℕ → List ℕ
of_how_many expected = labelled [] expected (ascii " bits\n")

pub cut_short_reason : (verdict bits expected : ℕ) → (verdict ≡ 1 → ⊥) → reason_of verdict bits expected ≡ how_many bits ++ of_how_many expected
unfolding reason_of
cut_short_reason verdict bits expected n = simp (ne_eqb verdict 1 n)

pub cut_short_fits : (bits expected : ℕ) (out : List ℕ) → length out ≡ block_length → 0 + length (how_many bits ++ of_how_many expected) ≤ length out
cut_short_fits bits expected out long =
    let a = labelled_length (ascii "cut short: ") bits (ascii " of ") in
    let b = labelled_length [] expected (ascii " bits\n") in
    omega (arith, length-append (how_many bits) (of_how_many expected), a, b, long)

-- Both are short.
pub text_short : (r : ReplyRead) → length r.buffer ≤ 1024 → length (text_of r) ≤ 2065
unfolding text_of
text_short r h =
    choice (λ (text : List ℕ). length text ≤ 2065) (leb 7 (number r))
    (λ _. omega (arith, line_length (ascii "!") (number r ∷ r.report.line ∷ []) (2 ∷ 8 ∷ []) refl))
    (λ _. choice (λ (text : List ℕ). length text ≤ 2065) (eqb (number r) 0)
    (λ _. omega (arith, length-append (verdict r) (bytes r), verdict_short r.report.verdict r.report.bits, data_short r.report.bits r.buffer, h))
    (λ _. omega arith))

reason_short : (verdict bits expected : ℕ) → length (reason_of verdict bits expected) ≤ 120
unfolding reason_of
reason_short verdict bits expected =
    choice (λ (text : List ℕ). length text ≤ 120) (eqb verdict 1) (λ _. omega arith)
    (λ _.
    let a = labelled_length (ascii "cut short: ") bits (ascii " of ") in
    let b = labelled_length [] expected (ascii " bits\n") in
    omega (arith, length-append (how_many bits) (of_how_many expected), a, b))

pub message_short : (p : Report) → length (message_of p) ≤ 120
unfolding message_of
message_short p =
    choice (λ (text : List ℕ). length text ≤ 120) (whole_report p) (λ _. omega arith)
    (λ _. choice (λ (text : List ℕ). length text ≤ 120) (eqb p.number 0) (λ _. reason_short p.verdict p.bits p.expected)
    (λ _. sentence_short p.number p.line p.notes))

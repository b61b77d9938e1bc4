-- The end of a line: what it means is listed next.
-- Assumes nothing.
use Rattle.std.proofs.Common.{◌≡◌, ℕ, ◌+◌, ◌*◌, ◌≤◌, Bool, true, List, [], ◌∷◌, length, sym, refl, ap, ◌∙◌, append-nil, arith, ne_eqb}
use Rattle.output.specs.Ascii.{ascii}
use Rattle.output.specs.Block.{block, put_all, put_if_fits}
use Rattle.output.proofs.Pieces.{put_when_fits, put_end_within}
use Rattle.line_meanings.specs.declared.LineSoFar.{LineSoFar}
use Rattle.line_meanings.specs.Line.{line_bytes, hex_number}
use Rattle.line_meanings.specs.Lines.{empty_line, answer_of, meaning_so_far, read_so_far, read_from}
use Rattle.line_meanings.proofs.FitLines.{LineFits, line_fits, fitting_bits}
use Rattle.layout.specs.ListingLines.{refused_line}
use Rattle.number_lines.proofs.LineLengths.{line_length}
use Rattle.program.specs.Listing.{outcome, next_line_number, listing_of}
use Rattle.program.specs.RunState.{Snapshot, snapshot, system_at, end_of, still_to_print, all_printed, lines_printed, StepReady, AfterLineEnd}
use Rattle.program.proofs.OutputBlock.{put_then}
use Rattle.program.proofs.WellFormed.{well_formed_with}

-- What `end_line` knows: one line more has ended, and the number is that of the line's answer.
pub record LineEnded (g : Snapshot) (lines number : ℕ) : Type 0 where
  pub ready : StepReady g
  pub counted : lines ≡ next_line_number g.state.lines
  pub numbered : number ≡ hex_number (answer_of g.state.line)

-- The run after the line: the line's bits are to be taken, or a refusal is put.
abbrev after_line : Snapshot → LineSoFar → ℕ → List ℕ → ℕ → ℕ → ℕ → Bool → ℕ → List ℕ → Snapshot
after_line g line lines bytes first count filled over number out =
    let s = g.state in
    snapshot (record {
      decoder = s.decoder;
      line = line;
      lines = lines;
      bytes = bytes;
      first = first;
      count = count;
      next = s.next;
      length = s.length;
      filled = filled;
      eof = s.eof;
      over = over;
      number = number;
    }) g.store g.tray out

-- the line is refused
module _ (frames : Bool) {g : Snapshot} {lines number : ℕ} (e : LineEnded g lines number) (wrong : number ≡ 0 → ⊥)
    (out : List ℕ) (place : ℕ) (p : block out place ≡ put_if_fits g.out g.state.filled (refused_line number lines)) where
  refusal_fits : g.state.filled + length (refused_line number lines) ≤ length g.out
  refusal_fits = omega (arith, e.ready.room, line_length (ascii "!") (number ∷ lines ∷ []) (2 ∷ 8 ∷ []) refl)

  refusal_put : block out place ≡ put_all g.out g.state.filled (refused_line number lines)
  refusal_put = p ∙ put_when_fits g.out g.state.filled (refused_line number lines) refusal_fits

  abbrev refused_state : Snapshot
  refused_state = after_line g g.state.line lines g.state.bytes g.state.first g.state.count place true number out

  refusal_listed : (characters : List ℕ) → all_printed frames refused_state characters
      ≡ lines_printed frames g (read_so_far g.state.line ∷ read_from empty_line characters)
  unfolding still_to_print listing_of meaning_so_far
  refusal_listed characters =
      put_then g.out (refused_line number lines) out g.state.filled place refusal_put refusal_fits
      (outcome [] (end_of refused_state.state) (system_at g))
      ∙ rw (← e.numbered, ne_eqb number 0 wrong, append-nil, e.counted)

  pub line_refused : AfterLineEnd frames g refused_state
  line_refused = let w = e.ready.well_formed in record {
    well_formed =
        well_formed_with w refused_state.state out refl w.range
        (put_end_within g.out (refused_line number lines) out g.state.filled place refusal_put refusal_fits);
    same_listing = refusal_listed;
    same_next = refl;
    same_length = refl;
    same_eof = refl;
    count = omega arith;
  }

-- the line's bits are to be taken
module _ (frames : Bool) {g : Snapshot} {lines number : ℕ} (e : LineEnded g lines number) (right : number ≡ 0)
    (line : LineSoFar) (empty : line ≡ empty_line) (bytes : length g.state.line.bytes ≡ line_bytes) where
  fits : LineFits g.state.line
  fits = line_fits g.state.line (sym e.numbered ∙ right)

  abbrev accepted_state : Snapshot
  accepted_state = after_line g line lines g.state.line.bytes 0 (4 * g.state.line.digits) g.state.filled g.state.over g.state.number g.out

  not_refused : (meaning_so_far g.state.line).number ≡ 0
  unfolding meaning_so_far
  not_refused = sym e.numbered ∙ right

  bits_listed : (characters : List ℕ) → all_printed frames accepted_state characters
      ≡ lines_printed frames g (read_so_far g.state.line ∷ read_from empty_line characters)
  unfolding still_to_print listing_of
  bits_listed characters = rw (fitting_bits g.state.line fits bytes, not_refused, e.ready.not_over, empty, e.counted)

  pub line_accepted : AfterLineEnd frames g accepted_state
  line_accepted = let w = e.ready.well_formed in record {
    well_formed = well_formed_with w accepted_state.state g.out refl (omega (arith, fits.few)) w.filled;
    same_listing = bits_listed;
    same_next = refl;
    same_length = refl;
    same_eof = refl;
    count = omega (arith, fits.few);
  }

-- A scan of the block of input up to the next line feed as a step of the run: it keeps all that is printed in the end.
-- Assumes nothing.
use Rattle.std.proofs.Common.{◌≡◌, ℕ, ◌+◌, ◌-◌, ◌*◌, ◌<◌, ◌≤◌, Bool, true, false, List, ◌∷◌, ◌++◌, length, drop, sym, refl, ap, ◌∙◌, arith, le-leb}
use Rattle.bits.proofs.Truth.{choice}
use Rattle.limits.specs.Limits.{clock_limit}
use Rattle.decoder.proofs.Soundness.{sound_parts}
use Rattle.line_meanings.specs.declared.Scanned.{Scanned}
use Rattle.line_meanings.specs.Lines.{empty_line, scan_of, read_so_far, read_from}
use Rattle.line_meanings.proofs.Blocks.{scan_complete, scan_incomplete, scan_to_end, scan_within, scan_advances}
use Rattle.program.specs.Listing.{bits_text, listing_of}
use Rattle.program.specs.RunState.{Snapshot, snapshot, system_at, block_then, still_to_print, all_printed, lines_printed}
use Rattle.program.specs.RunState.{WellFormed, StepReady, line_bits, work_left, AfterLineEnd, AfterSteps, with_input}
use Rattle.program.proofs.WellFormed.{input_well_formed}

-- with no bits left, the lines of what is to come
pub no_bits_left : (frames : Bool) (g : Snapshot) → WellFormed g → g.state.over ≡ false → g.state.count ≡ 0 → (characters : List ℕ)
    → still_to_print frames g characters ≡ listing_of frames (system_at g) g.state.lines (read_from g.state.line characters)
unfolding still_to_print bits_text
no_bits_left frames g w under_way none characters =
    let clock = (sound_parts g.state.decoder w.sound).next in
    rw (under_way, none, le-leb (g.state.decoder.next + 0) clock_limit (omega arith))

lines_left : (frames : Bool) (g : Snapshot) → StepReady g → g.state.count ≡ 0 → (characters : List ℕ)
    → all_printed frames g characters ≡ lines_printed frames g (read_from g.state.line characters)
lines_left frames g t none characters = ap (block_then g) (no_bits_left frames g t.well_formed t.not_over none characters)

-- What `scan_line` knows: no bits are left, the block has more, and a scan of it.
pub record ScanMade (input : List ℕ) (g : Snapshot) (scanned : Scanned) : Type 0 where
  pub ready : StepReady g
  pub none : g.state.count ≡ 0
  pub more : g.state.next < length input
  pub result : scanned ≡ scan_of g.state.line input g.state.next

-- The run with what was scanned.
abbrev pub scanned_state : Snapshot → Scanned → Snapshot
scanned_state g scanned =
    let s = g.state in
    snapshot (with_input s scanned.line scanned.next s.length s.eof s.over s.number) g.store g.tray g.out

module _ {input : List ℕ} {g : Snapshot} {scanned : Scanned} (made : ScanMade input g scanned) where
  pub scanned_ready : StepReady (scanned_state g scanned)
  scanned_ready = record {
    well_formed =
        let s = g.state in
        input_well_formed made.ready.well_formed scanned.line scanned.next s.length s.eof s.over s.number;
    not_over = made.ready.not_over;
    room = made.ready.room;
  }

  within : scanned.next ≤ length input
  within = rw made.result (scan_within g.state.line input g.state.next (let h = made.more in omega arith))

  advances : g.state.next < scanned.next
  advances = rw made.result (scan_advances g.state.line input g.state.next made.more)

  -- the characters that are not scanned yet, before the scan and after it
  abbrev before : List ℕ → List ℕ
  before rest = drop g.state.next input ++ rest

  abbrev after : List ℕ → List ℕ
  after rest = drop scanned.next input ++ rest

  -- the line is complete
  module _ (frames : Bool) (complete : scanned.complete ≡ true) {h : Snapshot} (f : AfterLineEnd frames (scanned_state g scanned) h) where
    complete_means : (rest : List ℕ) → read_from g.state.line (before rest) ≡ read_so_far scanned.line ∷ read_from empty_line (after rest)
    complete_means rest = rw made.result (scan_complete g.state.line input g.state.next rest (rw made.result at complete))

    pub steps_complete : AfterSteps frames input g h
    steps_complete = record {
      well_formed = f.well_formed;
      same_listing = λ rest.
          f.same_listing (drop h.state.next input ++ rest)
          ∙ sym (lines_left frames g made.ready made.none (before rest) ∙ rw (complete_means rest, f.same_next));
      within = rw f.same_next within;
      same_length = f.same_length;
      same_eof = f.same_eof;
    }

    pub less_complete : work_left (length input) h.state < work_left (length input) g.state
    less_complete =
        let low = within in
        let further = advances in
        let few = f.count in
        let work : ℕ → ℕ → ℕ → ℕ = λ n next count. n + (line_bits + 1) * (length input - next) + count in
        rw (made.ready.not_over, f.same_next)
        (choice (λ (n : ℕ). work n scanned.next h.state.count < work 1 g.state.next g.state.count) h.state.over
        (λ _. omega arith) (λ _. omega arith))

  -- the block ends first
  module _ (frames : Bool) (incomplete : scanned.complete ≡ false) where
    incomplete_means : (rest : List ℕ) → read_from g.state.line (before rest) ≡ read_from scanned.line (after rest)
    incomplete_means rest =
        let o : (scan_of g.state.line input g.state.next).complete ≡ false = rw made.result at incomplete in
        rw (made.result, scan_to_end g.state.line input g.state.next o) (scan_incomplete g.state.line input g.state.next rest o)

    pub steps_incomplete : AfterSteps frames input g (scanned_state g scanned)
    steps_incomplete = record {
      well_formed = scanned_ready.well_formed;
      same_listing = λ rest.
          lines_left frames (scanned_state g scanned) scanned_ready made.none (after rest)
          ∙ sym (lines_left frames g made.ready made.none (before rest) ∙ rw (incomplete_means rest));
      within = within;
      same_length = refl;
      same_eof = refl;
    }

    pub less_incomplete : work_left (length input) (scanned_state g scanned).state < work_left (length input) g.state
    less_incomplete = let low = within in let further = advances in omega arith

-- What a run under way stands for: as it begins, after a read, after the steps of a block, after a write, and when it is over.
-- Assumes nothing.
use Rattle.std.proofs.Common.{◌≡◌, ℕ, ◌<◌, ◌≤◌, Bool, true, false, eqb, leb, List, [], ◌∷◌, ◌++◌, length, take, drop, set, sym, refl, ap, ◌∙◌, append_assoc, append-nil, arith, drop_of_length-le, length-take, eqb-true, leb-true}
use Rattle.bits.proofs.Truth.{both, clash}
use Rattle.plans.specs.Plan.{default_plan}
use Rattle.limits.specs.Limits.{store_length, tray_length}
use Rattle.calls.proofs.SoundnessKept.{start_sound}
use Rattle.output.specs.Ascii.{line_feed}
use Rattle.line_meanings.specs.Lines.{no_characters, read_from}
use Rattle.line_meanings.proofs.Blocks.{lines}
use Rattle.program.specs.declared.RunState.{RunState}
use Rattle.program.specs.Listing.{Outcome, outcome, print_first, listing_of}
use Rattle.program.specs.RunState.{start, Snapshot, snapshot, system_at, end_of, still_to_print, WellFormed, AfterSteps}
use Rattle.program.specs.RunState.{with_input, wants_input}
use Rattle.program.specs.Program.{listed, unscanned, Standing}
use Rattle.program.specs.Turns.{after_write, text_put}
use Rattle.program.proofs.WellFormed.{input_well_formed}
use Rattle.program.proofs.ScanStep.{no_bits_left}

-- ---- as it begins

pub start_well_formed : (store tray out : List ℕ) → length store ≡ store_length → length tray ≡ tray_length → WellFormed (snapshot start store tray out)
start_well_formed store tray out long wide =
    record { sound = start_sound default_plan 0; store = long; tray = wide; range = omega arith; filled = omega arith }

pub start_stands : (frames : Bool) (store tray out input : List ℕ) → length store ≡ store_length → length tray ≡ tray_length
    → Standing frames store tray [] [] (snapshot start store tray out) input
start_stands frames store tray out input long wide = record {
  same = λ more e.
      sym (no_bits_left frames (snapshot start store tray out) (start_well_formed store tray out long wide) refl refl more ∙ rw (lines more));
}

-- ---- after a read

-- one byte put at the start of a block
one_byte : (block : List ℕ) (v : ℕ) → 0 < length block → take 1 (set block 0 v) ≡ v ∷ []
one_byte [] v h = absurd (omega arith)
one_byte (x ∷ block) v h = refl

module _ {frames : Bool} {store₀ tray₀ characters written : List ℕ} {s : RunState} {store tray out input : List ℕ}
    (stands : Standing frames store₀ tray₀ characters written (snapshot s store tray out) input) (due : wants_input s ≡ true) where
  abbrev g : Snapshot
  g = snapshot s store tray out

  -- nothing is left of the last one
  none_left : s.count ≡ 0
  unfolding wants_input
  none_left = eqb-true _ _ (both (eqb s.count 0) (leb s.length s.next) due).0

  all_scanned : unscanned s input ≡ []
  unfolding wants_input
  all_scanned =
      let h : s.length ≤ s.next = leb-true _ _ (both (eqb s.count 0) (leb s.length s.next) due).1 in
      drop_of_length-le (take s.length input) {i = s.next} (omega (arith, length-take s.length input))

  -- so that what is still to be printed is that of the characters to come
  to_come : (more : List ℕ) → (s.eof ≡ true → more ≡ [])
      → listed frames store₀ tray₀ (characters ++ more) ≡ print_first written (still_to_print frames g more)
  to_come more e = stands.same more e ∙ ap (λ (cs : List ℕ). print_first written (still_to_print frames g (cs ++ more))) all_scanned

  -- it brought characters
  pub characters_stand : (got : ℕ) (block : List ℕ) → s.eof ≡ false
      → Standing frames store₀ tray₀ (characters ++ take got block) written
      (snapshot (with_input s s.line 0 got s.eof s.over s.number) store tray out) block
  unfolding still_to_print
  characters_stand got block e = record {
    same = λ more f.
        ap (listed frames store₀ tray₀) (append_assoc characters (take got block) more) ∙ to_come (take got block ++ more) (λ t. clash t e);
  }

  -- it brought none
  module _ (w : WellFormed g) (under_way : s.over ≡ false) where
    abbrev ended : Bool → Snapshot
    ended over = snapshot (with_input s s.line 0 1 true over 0) store tray out

    end_as_line_feed : (over : Bool) → no_characters s.line ≡ over → still_to_print frames g [] ≡ still_to_print frames (ended over) (line_feed ∷ [])
    unfolding still_to_print read_from listing_of
    end_as_line_feed true e = no_bits_left frames g w under_way none_left [] ∙ rw e
    end_as_line_feed false e =
        no_bits_left frames g w under_way none_left []
        ∙ rw e (sym (no_bits_left frames (ended false) (input_well_formed w s.line 0 1 true false 0) refl none_left (line_feed ∷ [])))

    pub end_stands : (block : List ℕ) → 0 < length block
        → Standing frames store₀ tray₀ characters written (ended (no_characters s.line)) (set block 0 line_feed)
    end_stands block some = record {
      same = λ more f.
          rw (f refl, one_byte block line_feed some)
          (to_come [] (λ t. refl) ∙ ap (print_first written) (end_as_line_feed (no_characters s.line) refl));
    }

-- ---- after the steps of a block, from an empty block of output

pub steps_stand : {frames : Bool} {store₀ tray₀ characters written : List ℕ} {g h : Snapshot} {input : List ℕ}
    → Standing frames store₀ tray₀ characters written g input → g.state.filled ≡ 0 → AfterSteps frames (take g.state.length input) g h
    → Standing frames store₀ tray₀ characters (written ++ text_put h) h input
steps_stand {written = written} stands empty steps = record {
  same = λ more e.
      stands.same more (λ t. e (steps.same_eof ∙ t))
      ∙ ap (print_first written) (sym (steps.same_listing more ∙ rw empty))
      ∙ rw (steps.same_length, append_assoc);
}

-- ---- after a write, with the block of output empty again

pub write_stands : {frames : Bool} {store₀ tray₀ characters written : List ℕ} {g : Snapshot} {input : List ℕ}
    → Standing frames store₀ tray₀ characters written g input → Standing frames store₀ tray₀ characters written (after_write g) input
unfolding still_to_print
write_stands stands = record { same = stands.same }

-- ---- when it is over

pub over_stands : {frames : Bool} {store₀ tray₀ characters written : List ℕ} {g : Snapshot} {input : List ℕ}
    → Standing frames store₀ tray₀ characters written g input → g.state.over ≡ true
    → listed frames store₀ tray₀ characters ≡ outcome written (end_of g.state) (system_at g)
unfolding still_to_print
over_stands {frames} {store₀} {tray₀} {characters} stands over =
    sym (ap (listed frames store₀ tray₀) (append-nil characters)) ∙ stands.same [] (λ t. refl) ∙ rw (over, append-nil)

-- What a run of bits prints: the lines of its records, and then what the bits that are left print.
-- Assumes nothing.
use Rattle.std.proofs.Common.{◌≡◌, ℕ, ◌+◌, ◌-◌, ◌*◌, ◌≤◌, Bool, true, false, cond, not, ◌&&◌, T, eqb, ltb, leb, List, [], ◌∷◌, ◌++◌, length, drop, sym, refl, ap, ◌∙◌, append_assoc, append-nil, arith, nltb→le, length-append, length-take, le-ltb}
use mathlib.Core.Bool.{and-false}
use Rattle.bits.proofs.Truth.{choice}
use Rattle.frames.specs.Tray.{part_of}
use Rattle.records.specs.declared.Cycle.{Cycle}
use Rattle.records.specs.declared.Cycle.TheVariants.{Silent, Recorded}
use Rattle.records.specs.declared.Record.{Record}
use Rattle.records.specs.Records.{head_of, kind_of, is_frame_head, frame_bits_of}
use Rattle.calls.specs.declared.Ending.{Ending}
use Rattle.calls.specs.declared.Ending.TheVariants.{Frame, ListFull, Done}
use Rattle.calls.specs.Run.{Run, ended, one_bit, one_record, after_cycle, run_of, state_after}
use Rattle.calls.specs.Turn.{System, turn_of}
use Rattle.layout.specs.ListingLines.{record_line}
use Rattle.byte_lines.proofs.LineLengths.{frame_length}
use Rattle.layout.proofs.LineLengths.{record_line_length}
use Rattle.listing.specs.Records.{frame_text, record_text, records_text}
use Rattle.program.specs.Listing.{bits_text}

-- the length of a record's text
part_length : (tray : List ℕ) (bits : ℕ) → length (part_of tray bits) ≤ length tray
part_length tray bits =
    choice (λ (l : List ℕ). length l ≤ length tray) (leb bits (8 * length tray)) (λ _. rw length-take (omega arith)) (λ _. omega arith)

frame_text_length : (frames : Bool) (tray : List ℕ) (head value : ℕ) → length (frame_text frames tray head value) ≤ 2 * length tray + 2
frame_text_length frames tray head value =
    let bits = frame_bits_of (kind_of head) value in
    let P : List ℕ → Type 0 = λ l. length l ≤ 2 * length tray + 2 in
    choice P (frames && is_frame_head head)
    (λ _. choice P (eqb bits 0) (λ _. omega arith) (λ _. omega (arith, frame_length (part_of tray bits), part_length tray bits)))
    (λ _. omega arith)

-- a record that is no frame's has only its line, whatever the tray holds
text_without_frame : (frames : Bool) (tray : List ℕ) (head value : ℕ) → is_frame_head head ≡ false → record_text frames tray head value ≡ record_line head value
unfolding record_text
text_without_frame frames tray head value e = simp (e, and-false frames, append-nil)

-- What holds of a run of some bits from a state into a room.
pub record RunPrints (frames : Bool) (w : System) (bits : List ℕ) (room : ℕ) (r : Run System) : Type 0 where
  pub text : bits_text frames w bits ≡ records_text frames r.state.machine.tray r.words ++ bits_text frames r.state (drop r.bits bits)
  pub state : state_after turn_of w bits ≡ state_after turn_of r.state (drop r.bits bits)
  pub next : r.state.machine.next ≡ w.machine.next + r.bits
  pub short : length (records_text frames r.state.machine.tray r.words) ≤ 14 * room + (2 * length r.state.machine.tray + 2)

module _ (frames : Bool) where
  stopped : (w : System) (bits : List ℕ) (room : ℕ) (e : Ending) → RunPrints frames w bits room (ended w e)
  unfolding records_text
  stopped w bits room e = record { text = refl; state = refl; next = omega arith; short = omega arith }

  module _ (w : System) (bit : ℕ) (bits : List ℕ) (room : ℕ) (enough : 2 ≤ room) (rest : System → ℕ → Run System)
      (each : (v : System) (left : ℕ) → RunPrints frames v bits left (rest v left)) where
    abbrev v : System
    v = (turn_of w bit).state

    later : v.machine.next ≡ w.machine.next + 1
    unfolding turn_of
    later = refl

    -- a record's line ahead of what the rest of the run prints
    with_record : (x : Record) → (turn_of w bit).cycle ≡ Recorded x → (r : Run System) → RunPrints frames v bits (room - 2) r
        → record_text frames v.machine.tray (head_of x) x.value ≡ record_text frames r.state.machine.tray (head_of x) x.value
        → length (record_text frames r.state.machine.tray (head_of x) x.value) ≡ 28
        → RunPrints frames w (bit ∷ bits) room (one_bit (one_record x r))
    unfolding bits_text records_text
    with_record x e r p same long = record {
      text = rw (e, same, p.text) (sym (append_assoc (record_text frames r.state.machine.tray (head_of x) x.value) _ _));
      state = p.state;
      next = let n = p.next in let l = later in omega arith;
      short = rw length-append (let s = p.short in omega arith);
    }

    -- a frame's record, after which the run stops
    with_frame : (x : Record) → (turn_of w bit).cycle ≡ Recorded x
        → RunPrints frames w (bit ∷ bits) room (one_bit (one_record x (ended v Frame)))
    unfolding bits_text records_text record_text
    with_frame x e = record {
      text = rw (e, append-nil);
      state = refl;
      next = later;
      short =
          rw (append-nil, length-append)
          (omega (arith, record_line_length (head_of x) x.value, frame_text_length frames v.machine.tray (head_of x) x.value));
    }

    by_frame : (x : Record) → (turn_of w bit).cycle ≡ Recorded x → (b : Bool) → is_frame_head (head_of x) ≡ b
        → RunPrints frames w (bit ∷ bits) room (one_bit (one_record x (cond b (ended v Frame) (rest v (room - 2)))))
    by_frame x e true f = with_frame x e
    by_frame x e false f =
        let r = rest v (room - 2) in
        let line = text_without_frame frames r.state.machine.tray (head_of x) x.value f in
        with_record x e r (each v (room - 2)) (text_without_frame frames v.machine.tray (head_of x) x.value f ∙ sym line)
        (ap length line ∙ record_line_length (head_of x) x.value)

    by_cycle : (c : Cycle) → (turn_of w bit).cycle ≡ c → RunPrints frames w (bit ∷ bits) room (one_bit (after_cycle rest v c room))
    unfolding bits_text
    by_cycle Silent e =
        let p = each v room in
        record { text = rw e p.text; state = p.state; next = let n = p.next in let l = later in omega arith; short = p.short }
    by_cycle (Recorded x) e = by_frame x e (is_frame_head (head_of x)) refl

  by_room : (w : System) (bit : ℕ) (bits : List ℕ) (room : ℕ) → ((v : System) (left : ℕ) → RunPrints frames v bits left (run_of turn_of bits v left))
      → (b : Bool) → (T (not b) → 2 ≤ room)
      → RunPrints frames w (bit ∷ bits) room
      (cond b (ended w ListFull) (one_bit (after_cycle (run_of turn_of bits) (turn_of w bit).state (turn_of w bit).cycle room)))
  by_room w bit bits room each true h = stopped w (bit ∷ bits) room ListFull
  by_room w bit bits room each false h = by_cycle w bit bits room (h tt) (run_of turn_of bits) each (turn_of w bit).cycle refl

  pub run_prints : (bits : List ℕ) (w : System) (room : ℕ) → RunPrints frames w bits room (run_of turn_of bits w room)
  run_prints [] w room = stopped w [] room Done
  run_prints (bit ∷ bits) w room = by_room w bit bits room (run_prints bits) (ltb room 2) (nltb→le room 2)

-- A run with room for a record takes a bit.
pub run_takes : (bits : List ℕ) (w : System) (room : ℕ) → 1 ≤ length bits → 2 ≤ room → 1 ≤ (run_of turn_of bits w room).bits
run_takes [] w room some enough = absurd (omega arith)
run_takes (bit ∷ bits) w room some enough = simp (le-ltb room 2 enough) (omega arith)

-- How a run ends: each ending has its condition, and no run ends in a refusal.
-- Assumes nothing.
use mathlib.Core.Path.{◌≡◌, refl, sym, ap}
use mathlib.Core.Bool.{Bool, true, false, cond, not}
use mathlib.Core.List.{List, [], ◌∷◌}
use Prim.Native.Nat.{ℕ, suc, ◌-◌, ◌<◌, ◌≤◌}
use native.Mathlib.Omega.{arith}
use lib.Dec.{ltb, T, ltb→lt, nltb→le}
use lib.ListN.{length}
use Rattle.records.specs.declared.Cycle.{Cycle}
use Rattle.records.specs.declared.Cycle.TheVariants.{Silent, Recorded}
use Rattle.records.specs.declared.Record.{Record}
use Rattle.records.specs.Records.{head_of, is_frame_head}
use Rattle.calls.specs.declared.Ending.{Ending}
use Rattle.calls.specs.declared.Ending.TheVariants.{Done, Frame, ListFull}
use Rattle.calls.specs.Run.{Turned, Run, NoFrames, LastIsFrame, ended, one_bit, one_record, after_cycle, run_of}
use Rattle.calls.specs.Take.{ending_number}

-- What holds of a run of some bits into a room.
pub record Ended {W : Type 0} (bits : List ℕ) (room : ℕ) (r : Run W) : Type 0 where
  pub done : r.ending ≡ Done → r.bits ≡ length bits
  pub full : r.ending ≡ ListFull → (r.bits < length bits) × (room - length r.words < 2)
  pub framed : r.ending ≡ Frame → LastIsFrame r.words
  pub unframed : (r.ending ≡ Frame → ⊥) → NoFrames r.words
  pub fits : ending_number r.ending ≡ 0

-- the three endings are different ones
done_frame : {A : Type 0} → ◌≡◌ {A = Ending} Done Frame → A
done_frame e = let z : ◌≡◌ {A = ℕ} 0 1 = cc in absurd (omega arith)

done_full : {A : Type 0} → ◌≡◌ {A = Ending} Done ListFull → A
done_full e = let z : ◌≡◌ {A = ℕ} 0 1 = cc in absurd (omega arith)

frame_full : {A : Type 0} → ◌≡◌ {A = Ending} Frame ListFull → A
frame_full e = let z : ◌≡◌ {A = ℕ} 0 1 = cc in absurd (omega arith)

module _ {W : Type 0} (turn : W → ℕ → Turned W) where
  at_end : (w : W) (room : ℕ) → Ended [] room (ended w Done)
  at_end w room = record {
    done = λ _. refl;
    full = done_full;
    framed = done_frame;
    unframed = λ _. tt;
    fits = refl;
  }

  no_room : (w : W) (bit : ℕ) (bits : List ℕ) (room : ℕ) → room < 2 → Ended (bit ∷ bits) room (ended w ListFull)
  no_room w bit bits room h = record {
    done = λ e. done_full (sym e);
    full = λ _. (omega arith, omega arith);
    framed = λ e. frame_full (sym e);
    unframed = λ _. tt;
    fits = refl;
  }

  -- one bit ahead
  later : (bit : ℕ) (bits : List ℕ) (room : ℕ) (r : Run W) → Ended bits room r → Ended (bit ∷ bits) room (one_bit r)
  later bit bits room r f = record {
    done = λ e. ap suc (f.done e);
    full = λ e. let h = f.full e in (omega arith, h.1);
    framed = f.framed;
    unframed = f.unframed;
    fits = f.fits;
  }

  -- one record ahead, which is no frame's
  recorded : (bits : List ℕ) (room : ℕ) (x : Record) (r : Run W) → is_frame_head (head_of x) ≡ false → 2 ≤ room → Ended bits (room - 2) r
      → Ended bits room (one_record x r)
  recorded bits room x r other h f = record {
    done = f.done;
    full = λ e. let g = f.full e in (g.0, omega arith);
    framed = λ e.
        let l = f.framed e in
        record {
          before = head_of x ∷ x.value ∷ l.before;
          head = l.head;
          value = l.value;
          parts = ap (λ (t : List ℕ). head_of x ∷ x.value ∷ t) l.parts;
          frame = l.frame;
          earlier = (other, l.earlier);
        };
    unframed = λ n. (other, f.unframed n);
    fits = f.fits;
  }

  -- a frame's record
  stops : (bits : List ℕ) (room : ℕ) (x : Record) (w : W) → is_frame_head (head_of x) ≡ true → Ended bits room (one_record x (ended w Frame))
  stops bits room x w f = record {
    done = λ e. done_frame (sym e);
    full = frame_full;
    framed = λ _. record { before = []; head = head_of x; value = x.value; parts = refl; frame = f; earlier = tt };
    unframed = λ n. absurd (n refl);
    fits = refl;
  }

  module _ (bits : List ℕ) (room : ℕ) (enough : 2 ≤ room) (rest : W → ℕ → Run W) (each : (v : W) (left : ℕ) → Ended bits left (rest v left)) where
    framing : (w : W) (x : Record) (b : Bool) → is_frame_head (head_of x) ≡ b → Ended bits room (one_record x (cond b (ended w Frame) (rest w (room - 2))))
    framing w x true e = stops bits room x w e
    framing w x false e = recorded bits room x (rest w (room - 2)) e enough (each w (room - 2))

    cycled : (w : W) (c : Cycle) → Ended bits room (after_cycle rest w c room)
    cycled w Silent = each w room
    cycled w (Recorded x) = framing w x (is_frame_head (head_of x)) refl

  tested : (w : W) (bit : ℕ) (bits : List ℕ) (room : ℕ) → ((v : W) (left : ℕ) → Ended bits left (run_of turn bits v left)) → (b : Bool)
      → (T b → room < 2) → (T (not b) → 2 ≤ room)
      → Ended (bit ∷ bits) room (cond b (ended w ListFull) (one_bit (after_cycle (run_of turn bits) (turn w bit).state (turn w bit).cycle room)))
  tested w bit bits room each true few enough = no_room w bit bits room (few tt)
  tested w bit bits room each false few enough =
      later bit bits room _ (cycled bits room (enough tt) (run_of turn bits) each (turn w bit).state (turn w bit).cycle)

  pub run_ended : (bits : List ℕ) (w : W) (room : ℕ) → Ended bits room (run_of turn bits w room)
  run_ended [] w room = at_end w room
  run_ended (bit ∷ bits) w room = tested w bit bits room (run_ended bits) (ltb room 2) (ltb→lt room 2) (nltb→le room 2)

-- A run writes what its bits say, and nothing else, wherever it stops.
-- Assumes nothing.
use mathlib.Core.Path.{◌≡◌, ◌∙◌, refl, sym, ap}
use mathlib.Core.Bool.{Bool, true, false, cond, not}
use mathlib.Core.List.{List, [], ◌∷◌, ◌++◌, append_assoc}
use Prim.Native.Nat.{ℕ, ◌*◌, ◌-◌, ◌/◌, ◌≤◌}
use native.Mathlib.Omega.{arith}
use lib.Dec.{ltb, T, nltb→le}
use lib.ListN.{length, take}
use Rattle.records.specs.declared.Cycle.{Cycle}
use Rattle.records.specs.declared.Cycle.TheVariants.{Silent, Recorded}
use Rattle.records.specs.declared.Record.{Record}
use Rattle.records.specs.Records.{head_of, words_of, is_frame_head}
use Rattle.calls.specs.declared.Ending.{Ending}
use Rattle.calls.specs.declared.Ending.TheVariants.{Done, Frame, ListFull}
use Rattle.calls.specs.Run.{Turned, Run, ended, one_bit, one_record, after_cycle, run_of, state_after, words_after}

module _ {W : Type 0} (turn : W → ℕ → Turned W) where
  pub state_append : (w : W) (xs ys : List ℕ) → state_after turn w (xs ++ ys) ≡ state_after turn (state_after turn w xs) ys
  state_append w [] ys = refl
  state_append w (x ∷ xs) ys = state_append (turn w x).state xs ys

  pub words_append : (w : W) (xs ys : List ℕ) → words_after turn w (xs ++ ys) ≡ words_after turn w xs ++ words_after turn (state_after turn w xs) ys
  words_append w [] ys = refl
  words_append w (x ∷ xs) ys =
      ap (λ l. words_of (turn w x).cycle ++ l) (words_append (turn w x).state xs ys)
      ∙ sym (append_assoc (words_of (turn w x).cycle) (words_after turn (turn w x).state xs) _)

-- What holds of a run of some bits from a state into a room: it takes a first part of them, writes what that part says, and fits.
pub record Faithful {W : Type 0} (turn : W → ℕ → Turned W) (w : W) (bits : List ℕ) (room : ℕ) (r : Run W) : Type 0 where
  pub state : r.state ≡ state_after turn w (take r.bits bits)
  pub words : r.words ≡ words_after turn w (take r.bits bits)
  pub taken : r.bits ≤ length bits
  pub fits : length r.words ≤ room
  pub whole : length r.words / 2 * 2 ≡ length r.words

module _ {W : Type 0} (turn : W → ℕ → Turned W) where
  stopped : (w : W) (bits : List ℕ) (room : ℕ) (e : Ending) → Faithful turn w bits room (ended w e)
  stopped w bits room e = record { state = refl; words = refl; taken = omega arith; fits = omega arith; whole = refl }

  -- one bit, and what the rest of the run does after its cycle
  module _ (w : W) (bit : ℕ) (bits : List ℕ) (room : ℕ) (enough : 2 ≤ room) (rest : W → ℕ → Run W)
      (faithful : (v : W) (left : ℕ) → Faithful turn v bits left (rest v left)) where
    Step : Cycle → Type 0
    Step c =
        (turn w bit).cycle ≡ c → Faithful turn w (bit ∷ bits) room (one_bit (after_cycle rest (turn w bit).state c room))

    recorded : (x : Record) → (turn w bit).cycle ≡ Recorded x → (r : Run W) → Faithful turn (turn w bit).state bits (room - 2) r
        → Faithful turn w (bit ∷ bits) room (one_bit (one_record x r))
    recorded x e r f = record {
      state = f.state;
      words = rw e (ap (λ l. head_of x ∷ x.value ∷ l) f.words);
      taken = let h = f.taken in omega arith;
      fits = let h = f.fits in omega arith;
      whole = let h = f.whole in omega arith;
    }

    framed : (x : Record) → (turn w bit).cycle ≡ Recorded x → (b : Bool)
        → Faithful turn w (bit ∷ bits) room (one_bit (one_record x (cond b (ended (turn w bit).state Frame) (rest (turn w bit).state (room - 2)))))
    framed x e true = recorded x e _ (stopped (turn w bit).state bits (room - 2) Frame)
    framed x e false = recorded x e _ (faithful (turn w bit).state (room - 2))

    stepped : (c : Cycle) → Step c
    unfolding Step
    stepped Silent e =
        let f = faithful (turn w bit).state room in
        record {
          state = f.state;
          words = rw e f.words;
          taken = let h = f.taken in omega arith;
          fits = f.fits;
          whole = f.whole;
        }
    stepped (Recorded x) e = framed x e (is_frame_head (head_of x))

  tested : (w : W) (bit : ℕ) (bits : List ℕ) (room : ℕ) → ((v : W) (left : ℕ) → Faithful turn v bits left (run_of turn bits v left)) → (b : Bool)
      → (T (not b) → 2 ≤ room)
      → Faithful turn w (bit ∷ bits) room
      (cond b (ended w ListFull) (one_bit (after_cycle (run_of turn bits) (turn w bit).state (turn w bit).cycle room)))
  unfolding Step
  tested w bit bits room faithful true h = stopped w (bit ∷ bits) room ListFull
  tested w bit bits room faithful false h = stepped w bit bits room (h tt) (run_of turn bits) faithful (turn w bit).cycle refl

  pub run_faithful : (bits : List ℕ) (w : W) (room : ℕ) → Faithful turn w bits room (run_of turn bits w room)
  run_faithful [] w room = stopped w [] room Done
  run_faithful (bit ∷ bits) w room = tested w bit bits room (run_faithful bits) (ltb room 2) (nltb→le room 2)

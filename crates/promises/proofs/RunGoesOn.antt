-- A run goes on to a further bit only where no record so far is a frame's and two words are free; and one that ends with a frame wrote it at its last bit.
-- Assumes nothing.
use mathlib.Core.Path.{◌≡◌, ◌∙◌, refl, sym, ap}
use mathlib.Core.Bool.{Bool, true, false, cond, not}
use mathlib.Core.List.{List, [], ◌∷◌, ◌++◌, append_assoc}
use Prim.Native.Nat.{ℕ, zero, suc, ◌-◌, ◌<◌, ◌≤◌}
use native.Mathlib.Omega.{arith}
use lib.Dec.{ltb, T, nltb→le}
use lib.ListN.{take}
use Rattle.records.specs.declared.Cycle.{Cycle}
use Rattle.records.specs.declared.Cycle.TheVariants.{Silent, Recorded}
use Rattle.records.specs.declared.Record.{Record}
use Rattle.records.specs.Records.{head_of, words_of, is_frame_head}
use Rattle.calls.specs.declared.Ending.TheVariants.{Frame, ListFull}
use Rattle.calls.specs.Run.{Turned, Run, ended, one_bit, one_record, after_cycle, run_of, words_after}
use Rattle.promises.specs.Records.{GoesOn}

module _ {W : Type 0} (turn : W → ℕ → Turned W) where
  -- ahead of each bit that a run has taken
  abbrev Each : W → List ℕ → ℕ → Run W → Type 0
  Each w bits room r = (n : ℕ) → n < r.bits → GoesOn (words_after turn w (take n bits)) room

  module _ (w : W) (bit : ℕ) (bits : List ℕ) (room : ℕ) (enough : 2 ≤ room) (rest : W → ℕ → Run W)
      (each : (v : W) (left : ℕ) → Each v bits left (rest v left)) where
    -- after the first bit's cycle
    framed : (v : W) (x : Record) (b : Bool) → is_frame_head (head_of x) ≡ b → (n : ℕ)
        → n < (cond b (ended v Frame) (rest v (room - 2))).bits → GoesOn (head_of x ∷ x.value ∷ words_after turn v (take n bits)) room
    framed v x true e n h = absurd (omega arith)
    framed v x false e n h =
        let g = each v (room - 2) n h in
        let two = g.two_free in
        record { no_frame = (e, g.no_frame); two_free = omega arith }

    cycled : (v : W) (c : Cycle) (n : ℕ) → n < (after_cycle rest v c room).bits → GoesOn (words_of c ++ words_after turn v (take n bits)) room
    cycled v Silent n h = each v room n h
    cycled v (Recorded x) n h = framed v x (is_frame_head (head_of x)) refl n h

    stepped : Each w (bit ∷ bits) room (one_bit (after_cycle rest (turn w bit).state (turn w bit).cycle room))
    stepped zero h = record { no_frame = tt; two_free = omega arith }
    stepped (suc n) h = cycled (turn w bit).state (turn w bit).cycle n (omega arith)

  tested : (w : W) (bit : ℕ) (bits : List ℕ) (room : ℕ) → ((v : W) (left : ℕ) → Each v bits left (run_of turn bits v left)) → (b : Bool)
      → (T (not b) → 2 ≤ room)
      → Each w (bit ∷ bits) room (cond b (ended w ListFull) (one_bit (after_cycle (run_of turn bits) (turn w bit).state (turn w bit).cycle room)))
  tested w bit bits room each true enough = λ n h. absurd (omega arith)
  tested w bit bits room each false enough = stepped w bit bits room (enough tt) (run_of turn bits) each

  pub run_goes_on : (bits : List ℕ) (w : W) (room n : ℕ) → n < (run_of turn bits w room).bits → GoesOn (words_after turn w (take n bits)) room
  run_goes_on [] w room = λ n h. absurd (omega arith)
  run_goes_on (bit ∷ bits) w room = tested w bit bits room (run_goes_on bits) (ltb room 2) (nltb→le room 2)

-- A run's last bit wrote its last record.
pub record LastBit {W : Type 0} (turn : W → ℕ → Turned W) (w : W) (bits : List ℕ) (taken : ℕ) : Type 0 where
  pub ahead : ℕ
  pub head : ℕ
  pub value : ℕ
  pub last : taken ≡ suc ahead
  pub parts : words_after turn w (take taken bits) ≡ words_after turn w (take ahead bits) ++ (head ∷ value ∷ [])

module _ {W : Type 0} (turn : W → ℕ → Turned W) where
  abbrev Framed : W → List ℕ → Run W → Type 0
  Framed w bits r = r.ending ≡ Frame → LastBit turn w bits r.bits

  module _ (w : W) (bit : ℕ) (bits : List ℕ) (room : ℕ) (rest : W → ℕ → Run W) (each : (v : W) (left : ℕ) → Framed v bits (rest v left)) where
    -- one bit ahead
    later : (r : Run W) → Framed (turn w bit).state bits r → r.ending ≡ Frame
        → LastBit turn w (bit ∷ bits) (suc r.bits)
    later r framed f =
        let l = framed f in
        record {
          ahead = suc l.ahead;
          head = l.head;
          value = l.value;
          last = ap suc l.last;
          parts = ap (λ words. words_of (turn w bit).cycle ++ words) l.parts
              ∙ sym (append_assoc (words_of (turn w bit).cycle) (words_after turn (turn w bit).state (take l.ahead bits)) _);
        }

    record_framed : (x : Record) → (turn w bit).cycle ≡ Recorded x → (b : Bool)
        → Framed w (bit ∷ bits) (one_bit (one_record x (cond b (ended (turn w bit).state Frame) (rest (turn w bit).state (room - 2)))))
    record_framed x e true = λ _. record {
      ahead = 0;
      head = head_of x;
      value = x.value;
      last = refl;
      parts = ap (λ (c : Cycle). words_of c ++ []) e;
    }
    record_framed x e false = later (rest (turn w bit).state (room - 2)) (each (turn w bit).state (room - 2))

    cycle_framed : (c : Cycle) → (turn w bit).cycle ≡ c → Framed w (bit ∷ bits) (one_bit (after_cycle rest (turn w bit).state c room))
    cycle_framed Silent e = later (rest (turn w bit).state room) (each (turn w bit).state room)
    cycle_framed (Recorded x) e = record_framed x e (is_frame_head (head_of x))

  test_framed : (w : W) (bit : ℕ) (bits : List ℕ) (room : ℕ) → ((v : W) (left : ℕ) → Framed v bits (run_of turn bits v left)) → (b : Bool)
      → Framed w (bit ∷ bits) (cond b (ended w ListFull) (one_bit (after_cycle (run_of turn bits) (turn w bit).state (turn w bit).cycle room)))
  test_framed w bit bits room each true = λ e. let z : ◌≡◌ {A = ℕ} 0 1 = cc in absurd (omega arith)
  test_framed w bit bits room each false = cycle_framed w bit bits room (run_of turn bits) each (turn w bit).cycle refl

  pub run_last_bit : (bits : List ℕ) (w : W) (room : ℕ) → (run_of turn bits w room).ending ≡ Frame → LastBit turn w bits (run_of turn bits w room).bits
  run_last_bit [] w room = λ e. let z : ◌≡◌ {A = ℕ} 0 1 = cc in absurd (omega arith)
  run_last_bit (bit ∷ bits) w room = test_framed w bit bits room (run_last_bit bits) (ltb room 2)

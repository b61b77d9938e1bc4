-- The bits of the exact LV1, of a Fast, and of a Slow's header, Field 3 and Field 4.
-- Assumes nothing.
use mathlib.Core.Bool.{true, false}
use mathlib.Core.List.{List, [], ◌∷◌, ◌++◌}
use mathlib.Core.Path.{◌≡◌, refl, subst}
use Prim.Native.Nat.{ℕ, ◌+◌, ◌/◌, ◌%◌, ◌^◌, ◌<◌}
use native.Mathlib.Omega.{arith}
use lib.Dec.{ltb}
use Rattle.bits.specs.Bits.{shifted}
use Rattle.bits.proofs.Below.{below_at}
use Rattle.windows.specs.Windows.{is_fast}
use Rattle.slow_fields.specs.Slow.{is_frame, length_of}
use Rattle.recogniser.specs.declared.Phase.TheVariants.{Hunt, Body, Field3, Field4, Field5}
use Rattle.recogniser.specs.declared.Request.TheVariants.{Lv1, Fast, Slow}
use Rattle.recogniser.specs.declared.SlowRequest.TheVariants.{Frame}
use Rattle.recogniser.specs.declared.Recogniser.{Recogniser}
use Rattle.recogniser.specs.Parts.{start_of, idle, standing}
use Rattle.recogniser.specs.Fields.{slow_request_of}
use Rattle.recogniser.specs.Step.{step_of}
use Rattle.frames.specs.Tray.{tray_of}
use Rattle.registers.specs.Parts.{with_running}
use Rattle.controller.specs.Commands.{act_of}
use Rattle.calls.specs.Turn.{System, Machine, cnt_at, turn_of}
use Rattle.calls.proofs.FrameTurns.{system}
use Rattle.orders.specs.Streams.{number_bits, lv1_bits, header_bits, slow_body}
use Rattle.round_trip.proofs.Cycles.{at_cycle, later, Leads, Asks, leads_on, asks_behind, passes, asks, at_cycle_lem}

-- Four bits: three gathered, and with the fourth the number that they are.
abbrev gathered : ℕ → ℕ
gathered n = shifted 4 (shifted 4 (shifted 4 0 (n / 2 ^ 3 % 2)) (n / 2 ^ 2 % 2)) (n / 2 ^ 1 % 2)

abbrev ahead : ℕ → List ℕ
ahead n = n / 2 ^ 3 % 2 ∷ n / 2 ^ 2 % 2 ∷ n / 2 ^ 1 % 2 ∷ []

abbrev fourth : ℕ → ℕ
fourth n = n / 2 ^ 0 % 2

whole : (n : ℕ) → n < 16 → shifted 4 (gathered n) (fourth n) ≡ n
whole n h = below_at 16 (λ n. shifted 4 (gathered n) (fourth n)) (λ n. n) refl n h

-- The exact LV1.
pub lv1_asks : (m : Machine) → Asks (system idle m) lv1_bits (later 4 m) (Lv1 0)
unfolding turn_of step_of act_of tray_of
lv1_asks m =
    let before : Leads (system idle m) (1 ∷ 1 ∷ 1 ∷ 0 ∷ []) (system (start_of Hunt 14 0 0) (later 4 m)) =
    at_cycle_lem {n = m.next + 1 + 1 + 1 + 1} m (omega arith) (record { state = refl; words = refl }) in
    asks_behind before (1 ∷ []) (asks (system (start_of Hunt 14 0 0) (later 4 m)) 1 (Lv1 0) refl)

-- The header, and the three first bits of a body.
abbrev in_body : ℕ → Recogniser
in_body n = standing (start_of Body 0 0 0) (gathered n) 3

header_leads : (body : ℕ) (m : Machine) → Leads (system idle m) (header_bits ++ ahead body) (system (in_body body) (later 8 m))
unfolding turn_of step_of act_of tray_of
header_leads body m =
    at_cycle_lem {n = m.next + 1 + 1 + 1 + 1 + 1 + 1 + 1 + 1} m (omega arith) (record { state = refl; words = refl })

pub fast_asks : (body : ℕ) → body < 16 → is_fast body ≡ true → (m : Machine) → Asks (system idle m) (header_bits ++ number_bits 4 body) (later 8 m) (Fast body)
unfolding step_of
fast_asks body low fast m =
    asks_behind (header_leads body m) (fourth body ∷ [])
    (asks (system (in_body body) (later 8 m)) (fourth body) (Fast body) (rw (whole body low, fast)))

-- A Slow: "RunMode ends at the ninth header bit". Behind Field 3 stand the command, and the three first bits of Field 4.
abbrev pub stopped : ℕ → Machine → Machine
stopped n m = at_cycle (m.next + n) (with_running false m.model) m

abbrev pub slow_head : ℕ → ℕ → List ℕ
slow_head command address = header_bits ++ (slow_body ++ (number_bits 4 command ++ number_bits 4 address))

body_leads : (m : Machine) → Leads (system idle m) (header_bits ++ slow_body) (system (start_of Field3 0 0 0) (stopped 9 m))
unfolding turn_of step_of act_of tray_of
body_leads m = at_cycle_lem {n = m.next + 1 + 1 + 1 + 1 + 1 + 1 + 1 + 1 + 1} m (omega arith) (record { state = refl; words = refl })

field3_leads : (command : ℕ) → command < 16 → (m : Machine)
    → Leads (system (start_of Field3 0 0 0) m) (number_bits 4 command) (system (start_of Field4 0 command 0) (later 4 m))
unfolding turn_of step_of act_of tray_of
field3_leads command low m =
    subst (λ (n : ℕ). Leads (system (start_of Field3 0 0 0) m) (number_bits 4 command) (system (start_of Field4 0 n 0) (later 4 m))) (whole command low)
    (at_cycle_lem {n = m.next + 1 + 1 + 1 + 1} m (omega arith) (record { state = refl; words = refl }))

abbrev in_field4 : ℕ → ℕ → Recogniser
in_field4 command address = standing (start_of Field4 0 command 0) (gathered address) 3

field4_leads : (command address : ℕ) (m : Machine)
    → Leads (system (start_of Field4 0 command 0) m) (ahead address) (system (in_field4 command address) (later 3 m))
unfolding turn_of step_of act_of tray_of
field4_leads command address m = at_cycle_lem {n = m.next + 1 + 1 + 1} m (omega arith) (record { state = refl; words = refl })

module _ (command address : ℕ) (known : command < 16) (low : address < 16) (m : Machine) where
  abbrev before : System
  before = system (in_field4 command address) (stopped 16 m)

  head_leads : Leads (system idle m) (header_bits ++ (slow_body ++ (number_bits 4 command ++ ahead address))) before
  head_leads =
      at_cycle_lem {n = m.next + 9 + 4 + 3} m (omega arith)
      (leads_on (body_leads m) (number_bits 4 command ++ ahead address)
      (leads_on (field3_leads command known (stopped 9 m)) (ahead address) (field4_leads command address (later 4 (stopped 9 m)))))

  -- Field 5 follows,
  pub head_begins : ltb 0 (length_of command (cnt_at m)) ≡ true → Leads (system idle m) (slow_head command address)
      (system (start_of Field5 0 command address) (stopped 17 m))
  unfolding step_of
  head_begins some =
      at_cycle_lem {n = m.next + 16 + 1} m (omega arith)
      (leads_on head_leads (fourth address ∷ []) (passes before (fourth address) (start_of Field5 0 command address) (rw (whole address low, some))))

  -- or the command ends with Field 4.
  pub head_asks : ltb 0 (length_of command (cnt_at m)) ≡ false → is_frame command ≡ false
      → Asks (system idle m) (slow_head command address) (stopped 16 m) (slow_request_of command address 0)
  unfolding step_of
  head_asks none plain =
      asks_behind head_leads (fourth address ∷ [])
      (asks before (fourth address) (slow_request_of command address 0) (rw (whole address low, none, plain)))

  pub head_frames : ltb 0 (length_of command (cnt_at m)) ≡ false → is_frame command ≡ true
      → Asks (system idle m) (slow_head command address) (stopped 16 m) (Slow (Frame command false))
  unfolding step_of
  head_frames none frame =
      asks_behind head_leads (fourth address ∷ []) (asks before (fourth address) (Slow (Frame command false)) (rw (none, frame)))

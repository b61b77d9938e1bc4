-- Field 5 of a command that carries no frame: its bits are counted, and kept as the number that they are.
-- Assumes nothing.
use mathlib.Core.Bool.{false, ◌||◌}
use mathlib.Core.List.{List, [], ◌∷◌}
use mathlib.Core.Path.{◌≡◌, ◌∙◌, sym, ap, subst}
use Prim.Native.Nat.{ℕ, zero, suc, ◌+◌, ◌/◌, ◌%◌, ◌^◌, ◌<◌}
use native.Mathlib.Numerals.{add-one}
use native.Mathlib.Omega.{arith}
use lib.Dec.{eqb}
use lib.ListN.{length}
use lib.Pow.{shr_le, shr-shr}
use borrow.Author.Tests.{le-leb, lt-leb}
use Rattle.bits.specs.Bits.{shifted}
use Rattle.slow_fields.specs.Slow.{is_frame, length_of, kept_of}
use Rattle.recogniser.specs.declared.Phase.TheVariants.{Field5}
use Rattle.recogniser.specs.declared.Request.{Request}
use Rattle.recogniser.specs.declared.Recogniser.{Recogniser}
use Rattle.recogniser.specs.Fields.{slow_request_of}
use Rattle.recogniser.specs.Step.{step_of}
use Rattle.calls.specs.Turn.{System, Machine, cnt_at}
use Rattle.calls.proofs.FrameTurns.{system}
use Rattle.orders.specs.Streams.{number_bits}
use Rattle.round_trip.proofs.Cycles.{at_cycle, later, Asks, asks_behind, passes, asks}

-- What is held behind some bits.
abbrev pub held_by : ℕ → ℕ → List ℕ → ℕ
held_by command held [] = held
held_by command held (bit ∷ bits) = held_by command (kept_of command held bit) bits

abbrev inside : ℕ → ℕ → ℕ → ℕ → Recogniser
inside command address count held = record {
  phase = Field5;
  shift = 0;
  count = count;
  command = command;
  address = address;
  held = held;
  group = 0;
  unsteady = false;
}

-- A cycle later is one cycle and the rest.
one_later : {s : System} {bits : List ℕ} {q : Request} (n : ℕ) (m : Machine) → Asks s bits (later n (later 1 m)) q → Asks s bits (later (suc n) m) q
one_later {s} {bits} {q} n m f =
    let e : m.next + 1 + n ≡ m.next + suc n = omega arith in
    subst (λ (k : ℕ). Asks s bits (at_cycle k m.model m) q) e f

module _ (command address : ℕ) (plain : is_frame command ≡ false) where
  pub kept_asks : (bits : List ℕ) (bit count held : ℕ) (m : Machine) → count + length (bit ∷ bits) ≡ length_of command (cnt_at m)
      → Asks (system (inside command address count held) m) (bit ∷ bits) (later (length bits) m)
      (slow_request_of command address (held_by command held (bit ∷ bits)))
  unfolding step_of
  kept_asks [] bit count held m whole =
      let now = system (inside command address count held) m in
      let ends = le-leb (length_of command (cnt_at m)) (count + 1) (omega arith) in
      let e : m.next ≡ m.next + 0 = omega arith in
      subst (λ (k : ℕ). Asks now (bit ∷ []) (at_cycle k m.model m) (slow_request_of command address (kept_of command held bit))) e
      (asks now bit (slow_request_of command address (kept_of command held bit)) (rw (plain, ends)))
  kept_asks (next ∷ bits) bit count held m whole =
      let now = system (inside command address count held) m in
      let goes_on = lt-leb (length_of command (cnt_at m)) (count + 1) (omega arith) in
      one_later (length bits) m
      (asks_behind (passes now bit (inside command address (count + 1) (kept_of command held bit)) (rw (plain, goes_on))) (next ∷ bits)
      (kept_asks bits next (count + 1) (kept_of command held bit) (later 1 m) (omega arith)))

-- One digit less.
halved : (value width : ℕ) → value / 2 ^ suc width ≡ value / 2 ^ width / 2
halved value width = ap (λ (n : ℕ). value / 2 ^ n) (sym (add-one width)) ∙ sym (shr-shr value width 1)

-- The number that is kept: what stands above the bits to come, and at last all of it.
pub kept_number : (command : ℕ) → (eqb command 1 || eqb command 3) ≡ false → (value : ℕ) → value < 2 ^ 32 → (width : ℕ)
    → held_by command (value / 2 ^ width) (number_bits width value) ≡ value
kept_number command keeps value low zero = omega arith
kept_number command keeps value low (suc width) =
    let top = shr_le value width in
    let held : shifted 32 (value / 2 ^ suc width) (value / 2 ^ width % 2) ≡ value / 2 ^ width = rw (halved value width) (omega arith) in
    let one : kept_of command (value / 2 ^ suc width) (value / 2 ^ width % 2) ≡ value / 2 ^ width = rw keeps held in
    ap (λ (n : ℕ). held_by command n (number_bits width value)) one ∙ kept_number command keeps value low width

-- Field 5 of a frame as the composer writes it: the tray gets the frame's bits, and no group is unsteady.
-- Assumes nothing.
use mathlib.Core.Bool.{Bool, true, false, ◌||◌}
use mathlib.Core.List.{List, [], ◌∷◌}
use mathlib.Core.Path.{◌≡◌, ◌∙◌, refl, sym, ap, subst}
use Prim.Native.Nat.{ℕ, ◌*◌, ◌<◌}
use native.Mathlib.Omega.{arith}
use lib.Dec.{T, ltb, eqb, ltb→lt}
use lib.ListN.{length, replicate}
use Rattle.bits.proofs.Truth.{and_left, and_right}
use Rattle.bits.proofs.Below.{below_at}
use Rattle.bits.proofs.BitRanges.{binary}
use Rattle.groups.specs.Vote.{vote_of, unsteady, votes_of, some_unsteady}
use Rattle.slow_fields.specs.Slow.{is_frame, length_of}
use Rattle.recogniser.specs.declared.Phase.TheVariants.{Field5}
use Rattle.recogniser.specs.Parts.{start_of}
use Rattle.calls.specs.Turn.{System, Machine, cnt_at}
use Rattle.calls.proofs.FrameTurns.{FrameTaken, system, receiver_taken}
use Rattle.calls.proofs.FrontEndTurns.{front_end_taken}
use Rattle.orders.specs.Streams.{repeated}
use Rattle.orders.proofs.StreamBits.{repeated_binary, repeated_length}

-- Eight times the same bit.
vote_same : (bit : ℕ) → bit < 2 → vote_of (replicate 8 bit) ≡ bit
vote_same = below_at 2 (λ bit. vote_of (replicate 8 bit)) (λ bit. bit) refl

steady_same : (bit : ℕ) → bit < 2 → unsteady (replicate 8 bit) ≡ false
steady_same = below_at 2 (λ bit. unsteady (replicate 8 bit)) (λ bit. false) refl

votes_repeated : (bits : List ℕ) → T (binary bits) → votes_of (length bits) (repeated 8 bits) ≡ bits
votes_repeated [] b = refl
votes_repeated (bit ∷ bits) b =
    let first = vote_same bit (ltb→lt bit 2 (and_left (ltb bit 2) (binary bits) b)) in
    let rest = votes_repeated bits (and_right (ltb bit 2) (binary bits) b) in
    λ i. first i ∷ rest i

steady_repeated : (bits : List ℕ) → T (binary bits) → some_unsteady (length bits) (repeated 8 bits) ≡ false
steady_repeated [] b = refl
steady_repeated (bit ∷ bits) b =
    let first = steady_same bit (ltb→lt bit 2 (and_left (ltb bit 2) (binary bits) b)) in
    ap (λ (u : Bool). u || some_unsteady (length bits) (repeated 8 bits)) first ∙ steady_repeated bits (and_right (ltb bit 2) (binary bits) b)

pub repeated_once : (bits : List ℕ) → repeated 1 bits ≡ bits
repeated_once [] = refl
repeated_once (bit ∷ bits) = ap (λ (l : List ℕ). bit ∷ l) (repeated_once bits)

-- WrFrontEnd and RdFrontEnd,
pub front_end_field : (command : ℕ) → is_frame command ≡ true → eqb command 6 ≡ false → (frame : List ℕ) → T (binary frame) → 0 < length frame
    → (m : Machine) → length frame * 8 ≡ length_of command (cnt_at m)
    → FrameTaken command 0 frame false (repeated 8 frame) (system (start_of Field5 0 command 0) m)
front_end_field command carries groups [] b some m whole = absurd (omega arith)
front_end_field command carries groups (bit ∷ bits) b some m whole =
    let frame : List ℕ = bit ∷ bits in
    let s : System = system (start_of Field5 0 command 0) m in
    let long = repeated_length 8 frame in
    subst (λ (l : List ℕ). FrameTaken command 0 l false (repeated 8 frame) s) (votes_repeated frame b)
    (subst (λ (u : Bool). FrameTaken command 0 (votes_of (length frame) (repeated 8 frame)) u (repeated 8 frame) s) (steady_repeated frame b)
    (front_end_taken command 0 carries groups _ bit [] 0 (length frame) false m (omega arith) (omega arith) (repeated_binary 8 frame b) (omega arith)))

-- and WrReceiver.
pub receiver_field : (frame : List ℕ) → 0 < length frame → (m : Machine) → length frame ≡ length_of 6 (cnt_at m)
    → FrameTaken 6 0 frame false (repeated 1 frame) (system (start_of Field5 0 6 0) m)
receiver_field [] some m whole = absurd (omega arith)
receiver_field (bit ∷ bits) some m whole =
    subst (λ (l : List ℕ). FrameTaken 6 0 (bit ∷ bits) false l (system (start_of Field5 0 6 0) m)) (sym (repeated_once (bit ∷ bits)))
    (receiver_taken 0 bits bit 0 0 false m (omega arith))

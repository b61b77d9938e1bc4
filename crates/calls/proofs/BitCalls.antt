-- Any bits that the clock has room for can be taken: a call for each bit, with buffers of its own.
-- Assumes nothing.
use mathlib.Core.Bool.{true}
use mathlib.Core.Path.{◌≡◌, ◌∙◌, refl, ap, ap₂}
use mathlib.Core.List.{List, [], ◌∷◌, ◌++◌}
use Prim.Native.Nat.{ℕ, suc, ◌+◌, ◌*◌, ◌<◌, ◌≤◌}
use native.Mathlib.Omega.{arith}
use lib.Dec.{T, ltb, ltb→lt}
use lib.ListN.{length, replicate, length-replicate}
use borrow.Author.Tests.{eq-eqb, le-leb}
use Rattle.bits.specs.Bits.{bit_of}
use Rattle.bits.proofs.Truth.{holds_true, choice, and_left, and_right}
use Rattle.bits.proofs.BitRanges.{binary, binary_append, bits_binary}
use Rattle.records.specs.declared.Cycle.{Cycle}
use Rattle.records.specs.declared.Cycle.TheVariants.{Silent, Recorded}
use Rattle.records.specs.Records.{head_of, is_frame_head}
use Rattle.decoder.specs.declared.Decoder.{Decoder}
use Rattle.limits.specs.Limits.{clock_limit, store_length, tray_length}
use Rattle.decoder.specs.Sound.{sound_of}
use Rattle.calls.specs.Run.{Run, Turned, after_cycle, run_of, state_after}
use Rattle.calls.specs.Turn.{System, decoder_of, turn_of}
use Rattle.calls.specs.Take.{Call, CallResult, call, lent, taken_of, take_of}
use Rattle.calls.specs.Calls.{Part, call_of, result_of, system_after, bits_taken, all_bits, carried_bits}
use Rattle.calls.proofs.CallLists.{call_kept}
use Rattle.calls.proofs.Refusals.{buffers, taken}
use Rattle.calls.proofs.TurnsKept.{kept}
use Rattle.calls.proofs.SoundnessKept.{take_sound}

-- The bit is the highest of a byte; the list has room for one record.
abbrev call_with : ℕ → List ℕ → List ℕ → Call
call_with bit store tray = call (bit * 128 ∷ []) 0 1 store tray (0 ∷ 0 ∷ []) 0

abbrev pub call_for : ℕ → Call
call_for bit = call_with bit (replicate store_length 0) (replicate tray_length 0)

abbrev pub calls_for : List ℕ → List Call
calls_for [] = []
calls_for (bit ∷ bits) = call_for bit ∷ calls_for bits

-- A run of one bit takes it.
module _ {S : Type 0} (turn : S → ℕ → Turned S) where
  after_none : (s : S) (c : Cycle) → (after_cycle (run_of turn []) s c 2).bits ≡ 0
  after_none s Silent = refl
  after_none s (Recorded e) = choice (λ (r : Run S). r.bits ≡ 0) (is_frame_head (head_of e)) (λ _. refl) (λ _. refl)

  one_taken : (s : S) (bit : ℕ) → (run_of turn (bit ∷ []) s 2).bits ≡ 1
  one_taken s bit = ap suc (after_none (turn s bit).state (turn s bit).cycle)

module _ (d : Decoder) (bit : ℕ) (store tray : List ℕ) (store_long : length store ≡ store_length) (tray_long : length tray ≡ tray_length)
    (sound : T (sound_of d)) (low : bit < 2) (room : d.next + 1 ≤ clock_limit) where
  abbrev c : Call
  c = call_with bit store tray

  call_taken : (take_of d c).taken.report.bits ≡ 1
  unfolding taken_of
  call_taken =
      let fit : buffers c ≡ true = simp (eq-eqb (length store) store_length store_long, eq-eqb (length tray) tray_length tray_long) in
      ap (λ (l : CallResult). l.taken.report.bits)
      (taken d c (holds_true (sound_of d) sound) fit refl (le-leb (d.next + 1) clock_limit room))
      ∙ ap (λ n. 0 + n) (one_taken turn_of (lent d c) (bit_of (bit * 128 ∷ []) 0))

  takes_bit : bits_taken d c ≡ bit ∷ []
  takes_bit = rw call_taken (ap (λ b. b ∷ []) (omega arith))

  leaves : system_after (take_of d c) ≡ state_after turn_of (lent d c) (bit ∷ [])
  leaves = (call_kept d c).system ∙ ap (state_after turn_of (lent d c)) takes_bit

  next_cycle : (take_of d c).taken.decoder.next ≡ d.next + 1
  next_cycle = ap (λ (s : System). s.machine.next) leaves ∙ (kept (bit ∷ []) (lent d c)).next

pub calls_take : (bits : List ℕ) (d : Decoder) → T (binary bits) → T (sound_of d) → d.next + length bits ≤ clock_limit → all_bits d (calls_for bits) ≡ bits
unfolding all_bits
calls_take [] d b s h = refl
calls_take (bit ∷ bits) d b s h =
    let next : Decoder = (take_of d (call_for bit)).taken.decoder in
    let low = ltb→lt bit 2 (and_left (ltb bit 2) (binary bits) b) in
    let words = length-replicate {A = ℕ} store_length 0 in
    let bytes = length-replicate {A = ℕ} tray_length 0 in
    let store = replicate {A = ℕ} store_length 0 in
    let tray = replicate {A = ℕ} tray_length 0 in
    let one = next_cycle d bit store tray words bytes s low (omega arith) in
    ap₂ ◌++◌ (takes_bit d bit store tray words bytes s low (omega arith))
    (calls_take bits next (and_right (ltb bit 2) (binary bits) b) (take_sound d (call_for bit) s) (omega arith))

-- The bits of a list of calls are bits.
pub carried_binary : (s : System) (ps : List Part) → T (binary (carried_bits s ps))
unfolding carried_bits
carried_binary s [] = tt
carried_binary s (p ∷ ps) =
    let after : System = system_after (result_of s p) in
    binary_append (bits_taken (decoder_of s) (call_of s p)) (carried_bits after ps)
    (bits_binary p.input (result_of s p).taken.report.bits p.count p.first) (carried_binary after ps)

-- The same with store and tray carried over, of their lengths.
abbrev part_for : ℕ → Part
part_for bit = record { input = bit * 128 ∷ []; first = 0; count = 1; list = 0 ∷ 0 ∷ []; free = 0 }

abbrev pub parts_for : List ℕ → List Part
parts_for [] = []
parts_for (bit ∷ bits) = part_for bit ∷ parts_for bits

pub parts_take : (bits : List ℕ) (s : System) → length s.machine.store ≡ store_length → length s.machine.tray ≡ tray_length
    → T (binary bits) → T (sound_of (decoder_of s)) → s.machine.next + length bits ≤ clock_limit → carried_bits s (parts_for bits) ≡ bits
unfolding carried_bits
parts_take [] s store tray b sound h = refl
parts_take (bit ∷ bits) s store tray b sound h =
    let m = s.machine in
    let d : Decoder = decoder_of s in
    let low = ltb→lt bit 2 (and_left (ltb bit 2) (binary bits) b) in
    let next : System = system_after (result_of s (part_for bit)) in
    let is : next ≡ state_after turn_of s (bit ∷ []) = leaves d bit m.store m.tray store tray sound low (omega arith) in
    let k = kept (bit ∷ []) s in
    let next_store = ap (λ (t : System). length t.machine.store) is ∙ k.store ∙ store in
    let next_tray = ap (λ (t : System). length t.machine.tray) is ∙ k.tray ∙ tray in
    let cycle = ap (λ (t : System). t.machine.next) is ∙ k.next in
    ap₂ ◌++◌ (takes_bit d bit m.store m.tray store tray sound low (omega arith))
    (parts_take bits next next_store next_tray (and_right (ltb bit 2) (binary bits) b) (take_sound d (call_of s (part_for bit)) sound) (omega (arith, cycle)))

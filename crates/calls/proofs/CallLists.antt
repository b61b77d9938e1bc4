-- A taking call takes a first part of what it is offered, leaves what that part leads to, and writes what that part says; so does a list of calls.
-- Assumes nothing.
use mathlib.Core.Path.{◌≡◌, ◌∙◌, refl, sym, ap, ap₂}
use mathlib.Core.Bool.{not}
use mathlib.Core.List.{List, [], ◌∷◌, ◌++◌, append_assoc}
use Prim.Native.Nat.{ℕ, ◌+◌, ◌*◌, ◌-◌, ◌/◌, ◌≤◌}
use native.Mathlib.Omega.{arith}
use lib.ListN.{length, take, drop}
use lib.Seq.{sets, sets-eq, length-take-le, drop_at, take_at}
use Rattle.bits.specs.Range.{range_fits}
use Rattle.bits.proofs.Truth.{choice}
use Rattle.decoder.specs.declared.Decoder.{Decoder}
use Rattle.limits.specs.Limits.{list_unit}
use Rattle.decoder.specs.Sound.{sound_of}
use Rattle.calls.specs.declared.Ending.{Ending}
use Rattle.calls.specs.declared.Ending.TheVariants.{Unsound, WrongBuffers, WrongRange, ClockOver}
use Rattle.calls.specs.Run.{Run, run_of, state_after, words_after}
use Rattle.calls.specs.Turn.{System, decoder_of, turn_of}
use Rattle.calls.specs.Take.{Call, CallResult, offered, lent, refused, buffers_fit, clock_fits, taken_of, take_of}
use Rattle.calls.specs.Calls.{Part, bits_taken, call_of, result_of, system_after, carried_bits, carried_words, carried_system}
use Rattle.calls.proofs.RunFaithful.{run_faithful, state_append, words_append}

-- the words of a run stand in the list where it was lent
module _ (words list : List ℕ) (free : ℕ) (whole : length words / 2 * 2 ≡ length words) where
  standing_some : 1 ≤ length words → length words ≤ length list - free
      → take (2 * (0 + length words / 2)) (drop free (sets list free words)) ≡ words
  standing_some some fits =
      let n : 2 * (0 + length words / 2) ≡ length words = omega arith in
      let room : free + length words ≤ length list = omega arith in
      let front : length (take free list) ≡ free = length-take-le free list (omega arith) in
      let behind : List ℕ = drop (free + length words) list in
      rw (n, sets-eq words list free room, append_assoc (take free list) words behind, drop_at (take free list) (words ++ behind) free front)
      (take_at words behind (length words) refl)

standing : (words list : List ℕ) (free : ℕ) → length words / 2 * 2 ≡ length words → length words ≤ length list - free
    → take (2 * (0 + length words / 2)) (drop free (sets list free words)) ≡ words
standing [] list free whole fits = refl
standing (x ∷ xs) list free whole fits = standing_some (x ∷ xs) list free whole (omega arith) fits

-- what holds of an answer to a call: it took a first part of the bits offered, and its buffers are those of that part
pub record CallKept (d : Decoder) (c : Call) (l : CallResult) : Type 0 where
  pub taken : l.taken.report.bits ≤ length (offered c)
  pub system : system_after l ≡ state_after turn_of (lent d c) (take l.taken.report.bits (offered c))
  pub words : take (list_unit * l.taken.report.records) (drop c.free l.list) ≡ words_after turn_of (lent d c) (take l.taken.report.bits (offered c))

module _ (d : Decoder) (c : Call) where
  rejected : (e : Ending) → CallKept d c (refused d c e)
  rejected e = record { taken = omega arith; system = refl; words = refl }

  run : Run System
  run = run_of turn_of (offered c) (lent d c) (length c.list - c.free)

  through : CallKept d c (taken_of d c)
  unfolding taken_of run
  through =
      let f = run_faithful turn_of (offered c) (lent d c) (length c.list - c.free) in
      let z : 0 + run.bits ≡ run.bits = omega arith in
      record {
        taken = let h = f.taken in omega arith;
        system = rw z (ap (λ (s : System). s) f.state);
        words = rw z (standing run.words c.list c.free f.whole f.fits ∙ f.words);
      }

  pub call_kept : CallKept d c (take_of d c)
  unfolding take_of
  call_kept =
      choice (CallKept d c) (not (sound_of d)) (λ _. rejected Unsound)
      (λ _. choice (CallKept d c) (not (buffers_fit (length c.store) (length c.tray) (length c.list) c.free)) (λ _. rejected WrongBuffers)
      (λ _. choice (CallKept d c) (not (range_fits (length c.input) c.first c.count)) (λ _. rejected WrongRange)
      (λ _. choice (CallKept d c) (not (clock_fits d.next c.count)) (λ _. rejected ClockOver) (λ _. through))))

-- a list of calls, store and tray carried over
abbrev after_part : System → Part → System
after_part s p = system_after (result_of s p)

part_kept : (s : System) (p : Part) → CallKept (decoder_of s) (call_of s p) (result_of s p)
part_kept s p = call_kept (decoder_of s) (call_of s p)

pub carried_system_lem : (s : System) (ps : List Part) → carried_system s ps ≡ state_after turn_of s (carried_bits s ps)
unfolding carried_system carried_bits
carried_system_lem s [] = refl
carried_system_lem s (p ∷ ps) =
    let later : List ℕ = carried_bits (after_part s p) ps in
    carried_system_lem (after_part s p) ps ∙ ap (λ u. state_after turn_of u later) (part_kept s p).system
    ∙ sym (state_append turn_of s (bits_taken (decoder_of s) (call_of s p)) later)

pub carried_words_lem : (s : System) (ps : List Part) → carried_words s ps ≡ words_after turn_of s (carried_bits s ps)
unfolding carried_words carried_bits
carried_words_lem s [] = refl
carried_words_lem s (p ∷ ps) =
    let later : List ℕ = carried_bits (after_part s p) ps in
    let k = part_kept s p in
    ap₂ ◌++◌ k.words (carried_words_lem (after_part s p) ps ∙ ap (λ u. words_after turn_of u later) k.system)
    ∙ sym (words_append turn_of s (bits_taken (decoder_of s) (call_of s p)) later)

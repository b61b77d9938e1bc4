-- Calls that together take bits past a frame's last one take exactly those up to it with some first ones of them.
-- Assumes nothing.
use mathlib.Core.Bool.{not}
use mathlib.Core.List.{List, [], ◌∷◌, ◌++◌, append_assoc, append-nil}
use mathlib.Core.Logic.{◌⊎◌, inl, inr, ⊎_elim}
use mathlib.Core.Path.{◌≡◌, ◌∙◌, refl, sym, ap, ap₂, subst}
use Prim.Native.Nat.{ℕ, zero, suc, ◌+◌, ◌<◌}
use native.Mathlib.Omega.{arith}
use lib.ListN.{length, length-append, get_or, take, drop}
use lib.Seq.{length-take-le}
use Rattle.bits.specs.Range.{range_fits}
use Rattle.bits.proofs.Truth.{choice}
use Rattle.decoder.specs.declared.Decoder.{Decoder}
use Rattle.decoder.specs.Sound.{sound_of}
use Rattle.calls.specs.Run.{NoFrames, state_after, words_after}
use Rattle.calls.specs.Turn.{System, decoder_of, turn_of}
use Rattle.calls.specs.Take.{Call, CallResult, offered, lent, buffers_fit, clock_fits, taken_of, take_of}
use Rattle.calls.specs.Calls.{Part, bits_taken, call_of, result_of, system_after, carried_bits}
use Rattle.calls.proofs.RunFaithful.{state_append, words_append}
use Rattle.calls.proofs.CallLists.{call_kept}
use Rattle.calls.proofs.FrameEnds.{EndsWithFrame}
use Rattle.stream_promises.specs.Composing.{FirstCalls}
use Rattle.promises.proofs.Records.{ends}

-- A list cut in two ways: the first cut is not behind the second, or it is.
record Within (xs ys us vs : List ℕ) : Type 0 where
  more : List ℕ
  first : ys ≡ xs ++ more
  rest : us ≡ more ++ vs

record Beyond (xs ys : List ℕ) (y : ℕ) : Type 0 where
  more : List ℕ
  first : xs ≡ ys ++ (y ∷ more)

two_cuts : (xs ys us vs : List ℕ) (y : ℕ) → xs ++ us ≡ ys ++ (y ∷ vs) → Within xs ys us (y ∷ vs) ⊎ Beyond xs ys y
two_cuts [] ys us vs y e = inl (record { more = ys; first = refl; rest = e })
two_cuts (x ∷ xs) [] us vs y e = inr (record { more = xs; first = ap (λ n. n ∷ xs) (ap (λ (l : List ℕ). get_or l 0 0) e) })
two_cuts (x ∷ xs) (z ∷ ys) us vs y e =
    let head : x ≡ z = ap (λ (l : List ℕ). get_or l 0 0) e in
    ⊎_elim (λ w. inl (record { more = w.more; first = ap₂ ◌∷◌ (sym head) w.first; rest = w.rest }))
    (λ b. inr (record { more = b.more; first = ap₂ ◌∷◌ head b.first }))
    (two_cuts xs ys us vs y (ap (λ (l : List ℕ). drop 1 l) e))

-- The first ones of a list's first ones.
first_of : (n : ℕ) (l first more : List ℕ) → take n l ≡ first ++ more → take (length first) l ≡ first
first_of n l [] more e = refl
first_of zero l (x ∷ first) more e = absurd (omega (arith, ap length e))
first_of (suc n) [] (x ∷ first) more e = absurd (omega (arith, ap length e))
first_of (suc n) (y ∷ l) (x ∷ first) more e =
    ap₂ ◌∷◌ (ap (λ (k : List ℕ). get_or k 0 0) e) (first_of n l first more (ap (λ (k : List ℕ). drop 1 k) e))

no_frames_behind : (ws us : List ℕ) → NoFrames ws → NoFrames (ws ++ us) → NoFrames us
no_frames_behind [] us first all = all
no_frames_behind (head ∷ []) us first all = absurd first
no_frames_behind (head ∷ value ∷ ws) us first all = no_frames_behind ws us first.1 all.1

module _ (d : Decoder) (c : Call) where
  -- A call that takes bits is not refused.
  not_refused : (n : ℕ) → n < (take_of d c).taken.report.bits → n < (taken_of d c).taken.report.bits
  unfolding take_of
  not_refused n =
      let P : CallResult → Type 0 = λ l. n < l.taken.report.bits → n < (taken_of d c).taken.report.bits in
      choice P (not (sound_of d)) (λ _ h. absurd (omega arith))
      (λ _. choice P (not (buffers_fit (length c.store) (length c.tray) (length c.list) c.free)) (λ _ h. absurd (omega arith))
      (λ _. choice P (not (range_fits (length c.input) c.first c.count)) (λ _ h. absurd (omega arith))
      (λ _. choice P (not (clock_fits d.next c.count)) (λ _ h. absurd (omega arith)) (λ _ h. h))))

  -- It goes on behind some bits only where they write no frame's record.
  goes_on : (bits more : List ℕ) → bits_taken d c ≡ bits ++ more → 0 < length more → NoFrames (words_after turn_of (lent d c) bits)
  goes_on bits more e some =
      let taken = (take_of d c).taken.report.bits in
      let long = sym (length-take-le taken (offered c) (call_kept d c).taken) ∙ ap length e ∙ length-append bits more in
      let n : length bits < (taken_of d c).taken.report.bits = not_refused (length bits) (omega arith) in
      subst (λ (l : List ℕ). NoFrames (words_after turn_of (lent d c) l)) (first_of taken (offered c) bits more e) ((ends d c).at_once (length bits) n).no_frame

  -- So a frame's last bit is the last that it takes.
  stops : (ahead more : List ℕ) (last : ℕ) → (NoFrames (words_after turn_of (state_after turn_of (lent d c) ahead) (last ∷ [])) → ⊥)
      → bits_taken d c ≡ ahead ++ (last ∷ more) → more ≡ []
  stops ahead [] last frame e = refl
  stops ahead (bit ∷ more) last frame e =
      let s = lent d c in
      let before = goes_on ahead (last ∷ bit ∷ more) e (omega arith) in
      let all = goes_on (ahead ++ (last ∷ [])) (bit ∷ more) (e ∙ sym (append_assoc ahead (last ∷ []) (bit ∷ more))) (omega arith) in
      absurd (frame (no_frames_behind (words_after turn_of s ahead) _ before (subst NoFrames (words_append turn_of s ahead (last ∷ [])) all)))

one_ahead : (s : System) (p : Part) (ps : List Part) (bits : List ℕ) → FirstCalls (system_after (result_of s p)) ps bits
    → FirstCalls s (p ∷ ps) (bits_taken (decoder_of s) (call_of s p) ++ bits)
unfolding carried_bits
one_ahead s p ps bits l = record {
  first = p ∷ l.first;
  rest = l.rest;
  calls = ap (λ (r : List Part). p ∷ r) l.calls;
  took = ap (λ (r : List ℕ). bits_taken (decoder_of s) (call_of s p) ++ r) l.took;
}

first_calls : (ps : List Part) (s : System) (ahead more : List ℕ) (last : ℕ)
    → (NoFrames (words_after turn_of (state_after turn_of s ahead) (last ∷ [])) → ⊥)
    → carried_bits s ps ≡ ahead ++ (last ∷ more) → FirstCalls s ps (ahead ++ (last ∷ []))
unfolding carried_bits
first_calls [] s ahead more last frame e = absurd (omega (arith, ap length e, length-append ahead (last ∷ more)))
first_calls (p ∷ ps) s ahead more last frame e =
    let d = decoder_of s in
    let c = call_of s p in
    let after : System = system_after (result_of s p) in
    let bits : List ℕ = bits_taken d c in
    ⊎_elim
    (λ w.
    let there = ap (λ (t : System). state_after turn_of t w.more) (call_kept d c).system ∙ sym (state_append turn_of s bits w.more)
    ∙ ap (state_after turn_of s) (sym w.first) in
    let l = first_calls ps after w.more more last (λ none. frame (subst (λ (t : System). NoFrames (words_after turn_of t (last ∷ []))) there none))
    w.rest in
    subst (FirstCalls s (p ∷ ps)) (sym (append_assoc bits w.more (last ∷ [])) ∙ ap (λ (r : List ℕ). r ++ (last ∷ [])) (sym w.first))
    (one_ahead s p ps (w.more ++ (last ∷ [])) l))
    (λ b.
    let none = stops d c ahead b.more last frame b.first in
    record {
      first = p ∷ [];
      rest = ps;
      calls = refl;
      took = append-nil bits ∙ b.first ∙ ap (λ (r : List ℕ). ahead ++ (last ∷ r)) none;
    })
    (two_cuts bits ahead (carried_bits after ps) more last e)

pub frame_stop : (ps : List Part) (s : System) (bits more : List ℕ) → EndsWithFrame s bits → carried_bits s ps ≡ bits ++ more → FirstCalls s ps bits
frame_stop ps s bits more f took =
    subst (FirstCalls s ps) (sym f.parts)
    (first_calls ps s f.ahead more f.last f.frame
    (took ∙ ap (λ (l : List ℕ). l ++ more) f.parts ∙ append_assoc f.ahead (f.last ∷ []) more))

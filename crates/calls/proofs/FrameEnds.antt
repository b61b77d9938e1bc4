-- Bits that end with a frame's record: the last of them writes it.
-- Assumes nothing.
use mathlib.Core.Bool.{Bool, true, cond}
use mathlib.Core.List.{List, [], ◌∷◌, ◌++◌, append_assoc}
use mathlib.Core.Path.{◌≡◌, ◌∙◌, refl, sym, ap, subst}
use Prim.Native.Nat.{ℕ, ◌+◌, ◌/◌, ◌≤◌}
use native.Mathlib.Omega.{arith}
use lib.ListN.{length, length-append, get_or}
use Rattle.records.specs.Records.{is_frame_head}
use Rattle.calls.specs.Run.{NoFrames, state_after, words_after}
use Rattle.calls.specs.Turn.{System, turn_of}
use Rattle.calls.proofs.RunFaithful.{state_append, words_append}
use Rattle.calls.proofs.RecordTimes.{TimesBelow, times_below}

pub record EndsWithFrame (s : System) (bits : List ℕ) : Type 0 where
  pub ahead : List ℕ
  pub last : ℕ
  pub parts : bits ≡ ahead ++ (last ∷ [])
  pub frame : NoFrames (words_after turn_of (state_after turn_of s ahead) (last ∷ [])) → ⊥

-- So do they behind others.
pub ends_behind : (s : System) (before bits : List ℕ) → EndsWithFrame (state_after turn_of s before) bits → EndsWithFrame s (before ++ bits)
ends_behind s before bits e = record {
  ahead = before ++ e.ahead;
  last = e.last;
  parts = ap (λ (l : List ℕ). before ++ l) e.parts ∙ sym (append_assoc before e.ahead (e.last ∷ []));
  frame = λ none.
      e.frame (subst (λ (t : System). NoFrames (words_after turn_of t (e.last ∷ []))) (state_append turn_of s before e.ahead) none);
}

record LastOf (bits : List ℕ) : Type 0 where
  ahead : List ℕ
  last : ℕ
  parts : bits ≡ ahead ++ (last ∷ [])

last_of : (bit : ℕ) (bits : List ℕ) → LastOf (bit ∷ bits)
last_of bit [] = record { ahead = []; last = bit; parts = refl }
last_of bit (next ∷ bits) =
    let l = last_of next bits in
    record { ahead = bit ∷ l.ahead; last = l.last; parts = ap (λ (r : List ℕ). bit ∷ r) l.parts }

-- One record, in two parts: it is none of the first, whose times are lower, so it is the second's.
by_parts : (n head value : ℕ) → is_frame_head head ≡ true → n ≤ head / 65536 → (ws us : List ℕ) → ws ++ us ≡ head ∷ value ∷ [] → TimesBelow n ws
    → NoFrames us → ⊥
by_parts n head value frame time [] us e below none =
    let other = (subst NoFrames e none).0 in
    let z : ◌≡◌ {A = ℕ} 1 0 = ap (λ (b : Bool). cond b 1 0) (sym frame ∙ other) in
    absurd (omega arith)
by_parts n head value frame time (h ∷ []) us e below none = absurd below
by_parts n head value frame time (h ∷ v ∷ ws) us e below none =
    let same : h ≡ head = ap (λ (l : List ℕ). get_or l 0 0) e in
    let low = below.0 in
    absurd (omega arith)

-- Bits that write one record, a frame's, with the time of their last.
pub ends_with_frame : (s : System) (bits : List ℕ) (head value : ℕ) → words_after turn_of s bits ≡ head ∷ value ∷ [] → is_frame_head head ≡ true
    → head / 65536 + 1 ≡ s.machine.next + length bits → EndsWithFrame s bits
ends_with_frame s [] head value words frame time = absurd (omega (arith, ap length words))
ends_with_frame s (bit ∷ bits) head value words frame time =
    let l = last_of bit bits in
    let long = ap length l.parts ∙ length-append l.ahead (l.last ∷ []) in
    let joined = sym (words_append turn_of s l.ahead (l.last ∷ [])) ∙ ap (words_after turn_of s) (sym l.parts) ∙ words in
    let n = s.machine.next + length l.ahead in
    record {
      ahead = l.ahead;
      last = l.last;
      parts = l.parts;
      frame = by_parts n head value frame (omega arith) (words_after turn_of s l.ahead) _ joined (times_below l.ahead s n (omega arith));
    }

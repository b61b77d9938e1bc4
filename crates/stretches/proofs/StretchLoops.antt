-- What the loops over a stretch keep, bit by bit: what is left, after what was walked, is the whole; and what one bit of each loop does.
-- Assumes nothing.
use mathlib.Core.Path.{◌≡◌, ◌∙◌, refl, ap, sym}
use mathlib.Core.Bool.{true, false}
use mathlib.Core.List.{List, ◌∷◌}
use Prim.Native.Nat.{ℕ, ◌+◌, ◌-◌, ◌≤◌, ◌<◌}
use native.Mathlib.Omega.{arith}
use borrow.Author.Tests.{lt-ltb, le-ltb}
use Rattle.bits.specs.Bits.{bit_of, bits_of, shifted}
use Rattle.bits.specs.declared.Cursor.{Cursor}
use Rattle.bits.specs.Place.{cursor_at, place_under}
use Rattle.bits.proofs.Places.{Stands, stands, stands_at, bits_left}
use Rattle.windows.specs.declared.Meaning.{Meaning}
use Rattle.windows.specs.declared.Meaning.TheVariants.{Quiet, Trigger, Header}
use Rattle.recogniser.specs.declared.Recogniser.{Recogniser}
use Rattle.recogniser.specs.declared.Transition.{Transition}
use Rattle.recogniser.specs.Parts.{transition, standing}
use Rattle.windows.specs.Windows.{meaning_of}
use Rattle.recogniser.specs.Hunting.{hunt_by, body_of}
use Rattle.recogniser.specs.Step.{step_of}
use Rattle.stretches.specs.declared.Stretch.{Stretch}
use Rattle.stretches.specs.declared.Walk.{Walk}
use Rattle.stretches.specs.Stretch.{stretched, one_more, is_quiet, hunt_beyond, hunt_on, body_on, step_on}
use Rattle.stretches.specs.Walk.{walk_of}

-- So many cycles, and then a stretch.
abbrev pub cycles_ahead : ℕ → Stretch → Stretch
cycles_ahead walked s = stretched (walked + s.taken) (transition s.next s.event)

-- A walk by its parts.
abbrev walk : Stretch → Cursor → Walk
walk s behind = record { stretch = s; behind = behind }

-- Walked all but so many of a count of cycles: the whole stretch, the rest of it, and where the cursor stands.
pub record Invariant (whole rest : Stretch) (from at : Cursor) (left count : ℕ) : Type 0 where
  pub high : left ≤ count
  pub place : Stands at (place_under from + (count - left))
  pub same : cycles_ahead (count - left) rest ≡ whole

pub initially : (s : Stretch) (from : Cursor) (count : ℕ) → from.bit < 8 → Invariant s s from from count count
initially s from count h = record {
  high = omega arith;
  place = record { inside = h; under = omega arith };
  same = ap (λ (k : ℕ). stretched k (transition s.next s.event)) (omega arith);
}

module _ {whole rest : Stretch} {from at : Cursor} {left count : ℕ} (w : Invariant whole rest from at left count) where
  pub again : (further : Stretch) (next : Cursor) → rest ≡ one_more further → next ≡ cursor_at (place_under at + 1) → 0 < left
      → Invariant whole further from next (left - 1) count
  again further next e n h =
      let s = stands n in
      record {
        high = omega (arith, w);
        place = record { inside = s.inside; under = omega (arith, w, w.place, s) };
        same = ap (λ (k : ℕ). stretched k (transition further.next further.event)) (omega (arith, w)) ∙ rw e at w.same;
      }

  -- the loop's end, with so many cycles beyond those walked
  ended : (taken more : ℕ) (next : Cursor) (last : Transition) → taken ≡ count - left + more → rest ≡ stretched more last
      → Stands next (place_under at + more) → walk (stretched taken last) next ≡ walk_of from whole
  ended taken more next last t e n =
      let s : stretched taken last ≡ whole = rw t (rw e at w.same) in
      let p : next ≡ cursor_at (place_under from + taken) = stands_at (record { inside = n.inside; under = omega (arith, w, w.place, n, t) }) in
      (λ i. walk (s i) (p i)) ∙ ap (λ (k : ℕ). walk whole (cursor_at (place_under from + k))) (ap (λ (q : Stretch). q.taken) s)

  pub over : (last : Transition) → rest ≡ stretched 0 last → walk (stretched (count - left) last) at ≡ walk_of from whole
  over last e = ended (count - left) 0 at last (omega arith) e (record { inside = w.place.inside; under = omega arith })

  pub last_cycle : (last : Transition) (next : Cursor) → rest ≡ stretched 1 last → next ≡ cursor_at (place_under at + 1) → 0 < left
      → walk (stretched (count - (left - 1)) last) next ≡ walk_of from whole
  last_cycle last next e n h = ended (count - (left - 1)) 1 next last (omega (arith, w)) e (stands n)

-- A window that means nothing, and one that means something.
quiet_beyond : (v : ℕ) (m : Meaning) (s : Stretch) → is_quiet m ≡ true → hunt_beyond v m s ≡ one_more s
quiet_beyond v Quiet s e = refl
quiet_beyond v (Trigger position) s e = cc
quiet_beyond v Header s e = cc

loud_beyond : (v : ℕ) (m : Meaning) (s : Stretch) → is_quiet m ≡ false → hunt_beyond v m s ≡ stretched 1 (hunt_by v m)
loud_beyond v Quiet s e = cc
loud_beyond v (Trigger position) s e = refl
loud_beyond v Header s e = refl

module _ (input : List ℕ) (at next : Cursor) (left : ℕ) (h : 0 < left) (n : next ≡ cursor_at (place_under at + 1))
    (bit : ℕ) (b : bit ≡ bit_of input (place_under at)) where
  -- the bits that are left, and those after the first of them
  abbrev coming : List ℕ
  coming = bits_of input (place_under at) left

  abbrev beyond : List ℕ
  beyond = bits_of input (place_under next) (left - 1)

  first : coming ≡ bit ∷ beyond
  first = bits_left input at next left n h ∙ ap (λ (x : ℕ). x ∷ beyond) (sym b)

  -- One bit of a hunt.
  module _ (window v : ℕ) (e : v ≡ shifted 5 window bit) where
    pub hunt_left : is_quiet (meaning_of v) ≡ true → hunt_on window coming ≡ one_more (hunt_on v beyond)
    hunt_left q = rw (first, ← e) (quiet_beyond v (meaning_of v) _ q)

    pub hunt_last : is_quiet (meaning_of v) ≡ false → hunt_on window coming ≡ stretched 1 (hunt_by v (meaning_of v))
    hunt_last q = rw (first, ← e) (loud_beyond v (meaning_of v) _ q)

  -- One bit of a body.
  module _ (r : Recogniser) (shift received : ℕ) where
    pub body_left : (nibble : ℕ) → nibble ≡ shifted 4 shift bit → received < 3 →
        body_on (standing r shift received) coming ≡ one_more (body_on (standing r nibble (received + 1)) beyond)
    body_left nibble e l = rw (first, e) (simp (lt-ltb received 3 l))

    pub body_last : 3 ≤ received → body_on (standing r shift received) coming ≡ stretched 1 (body_of (standing r shift received) bit)
    body_last l = rw first (simp (le-ltb received 3 l))

  -- One cycle.
  pub step_walks : (r : Recogniser) (cnt : ℕ) (last : Transition) → last ≡ step_of r bit cnt →
      walk (stretched 1 last) next ≡ walk_of at (step_on r cnt coming)
  step_walks r cnt last e = rw (first, e, n)

-- Texts put into a block piece by piece: what is left of a text, put at the present place, gives what the whole text gives; and what then stands
-- ahead of the next place.
-- Assumes nothing.
use mathlib.Core.List.{List, [], ◌∷◌, ◌++◌, append_assoc}
use mathlib.Core.Path.{◌≡◌, refl, ap, ◌∙◌}
use Prim.Native.Nat.{ℕ, suc, ◌+◌, ◌-◌, ◌≤◌, ◌<◌}
use native.Mathlib.Nat.{add-zero, add_assoc, add-sub_cancel_left}
use native.Mathlib.Omega.{arith}
use lib.ListN.{length, set, take, drop, length-append}
use lib.Seq.{sets, length-sets, set_comm, sets-eq, take_at, length-take-le, drop-drop}
use borrow.Author.Tests.{le-leb, lt-leb}
use borrow.Rule.Slice.PartMut.{put_mid}
use Rattle.output.specs.Block.{Block, block, put_all, put_if_fits}

pub sets_append : (xs ys out : List ℕ) (at : ℕ) → sets out at (xs ++ ys) ≡ sets (sets out at xs) (at + length xs) ys
sets_append [] ys out at = rw add-zero
sets_append (x ∷ xs) ys out at =
    let e : at + suc (length xs) ≡ suc at + length xs = omega arith in
    rw e (sets_append xs ys (set out at x) (suc at))

-- A text whose last byte is stored first.
pub sets_last : (xs out : List ℕ) (at x : ℕ) → sets (set out (at + length xs) x) at xs ≡ sets out at (xs ++ (x ∷ []))
sets_last [] out at x = rw add-zero
sets_last (y ∷ xs) out at x =
    let e : at + suc (length xs) ≡ suc at + length xs = omega arith in
    rw (set_comm out (at + suc (length xs)) at x y (λ q. omega arith), e) (sets_last xs (set out at y) (suc at) x)

-- A text copied to a part of the block.
pub copied : (out xs ys : List ℕ) (at : ℕ) → at + length xs ≤ length out → ys ≡ xs
    → block (put_mid at (at + length xs - at) out ys) (at + length xs) ≡ put_all out at xs
copied out xs ys at h e = simp (e, add-sub_cancel_left, drop-drop) (rw (sets-eq xs out at h, append_assoc))

-- A text after another: there is room for both, and they are put as one.
module _ (out xs ys out' : List ℕ) (at place : ℕ) (e : block out' place ≡ put_all out at xs) where
  pub put_append : put_all out' place ys ≡ put_all out at (xs ++ ys)
  put_append = (λ i. put_all (e i).bytes (e i).next ys) ∙ rw (sets_append xs ys out at, length-append, add_assoc)

  pub put_room : at + length (xs ++ ys) ≤ length out → place + length ys ≤ length out'
  put_room h =
      let long = ap (λ (b : Block). length b.bytes) e ∙ length-sets out at xs in
      let moved = ap (λ (b : Block). b.next) e in
      omega (arith, simp length-append at h)

module _ (out : List ℕ) (at : ℕ) (text : List ℕ) where
  pub put_when_fits : at + length text ≤ length out → put_if_fits out at text ≡ put_all out at text
  unfolding put_if_fits
  put_when_fits h = simp (le-leb (at + length text) (length out) h)

  pub put_when_full : length out < at + length text → put_if_fits out at text ≡ block out at
  unfolding put_if_fits
  put_when_full h = simp (lt-leb (at + length text) (length out) h)

-- Of the text `whole`, put into the block `out₀` from `at` on, `rest` is left to put, into `out` from `place` on.
pub record PartlyPut (out₀ : List ℕ) (at : ℕ) (whole out : List ℕ) (place : ℕ) (rest : List ℕ) : Type 0 where
  pub same_length : length out ≡ length out₀
  pub fits : place + length rest ≤ length out
  pub whole_put : put_all out place rest ≡ put_all out₀ at whole

pub none_put : (out : List ℕ) (at : ℕ) (whole : List ℕ) → at + length whole ≤ length out → PartlyPut out at whole out at whole
none_put out at whole h = record { same_length = refl; fits = h; whole_put = refl }

module _ {out₀ : List ℕ} {at : ℕ} {whole out : List ℕ} {place : ℕ} {rest : List ℕ} (l : PartlyPut out₀ at whole out place rest) where
  -- there is room for the next piece
  pub next_fits : (xs rest' : List ℕ) → rest ≡ xs ++ rest' → place + length xs ≤ length out
  next_fits xs rest' e = omega (arith, l.fits, simp length-append at (ap length e))

  pub next_put : (xs rest' : List ℕ) → rest ≡ xs ++ rest' → (out' : List ℕ) (place' : ℕ) → block out' place' ≡ put_all out place xs
      → PartlyPut out₀ at whole out' place' rest'
  next_put xs rest' e out' place' p =
      record {
        same_length = ap (λ (b : Block). length b.bytes) p ∙ length-sets out place xs ∙ l.same_length;
        fits = put_room out xs rest' out' place place' p (rw e at l.fits);
        whole_put = put_append out xs rest' out' place place' p ∙ (rw e at l.whole_put);
      }

  pub all_put : rest ≡ [] → block out place ≡ put_all out₀ at whole
  all_put e = simp (e, add-zero) at l.whole_put

-- the next piece of a text, by a call that puts a line where it fits
pub next_put_if_fits : {out₀ : List ℕ} {at : ℕ} {whole out : List ℕ} {place : ℕ} {rest : List ℕ} → PartlyPut out₀ at whole out place rest
    → (xs rest' : List ℕ) → rest ≡ xs ++ rest' → (out' : List ℕ) (place' : ℕ) → block out' place' ≡ put_if_fits out place xs
    → PartlyPut out₀ at whole out' place' rest'
next_put_if_fits l xs rest' e out' place' p = next_put l xs rest' e out' place' (p ∙ put_when_fits _ _ xs (next_fits l xs rest' e))

-- what stands ahead of the next place
pub put_prefix : (out text out' : List ℕ) (at next : ℕ) → block out' next ≡ put_all out at text → at + length text ≤ length out
    → take next out' ≡ take at out ++ text
put_prefix out text out' at next e h =
    let long : length (take at out ++ text) ≡ at + length text = simp (length-append, length-take-le at out (omega arith)) in
    (λ i. take (e i).next (e i).bytes)
    ∙ rw (sets-eq text out at h)
    (take_at (take at out ++ text) (drop (at + length text) out) (at + length text) long)

-- the next place stays within the block
module _ (out text out' : List ℕ) (at next : ℕ) (e : block out' next ≡ put_all out at text) (h : at + length text ≤ length out) where
  pub put_end_within : next ≤ length out'
  put_end_within =
      let long = ap (λ (b : Block). length b.bytes) e ∙ length-sets out at text in
      let place = ap (λ (b : Block). b.next) e in
      omega arith

-- One bit more of a reception: what it does, and that it stays within what is expected.
-- Assumes nothing.
use mathlib.Core.Bool.{Bool, true, false}
use mathlib.Core.List.{List, [], ◌∷◌, ◌++◌}
use mathlib.Core.Path.{◌≡◌, refl, ◌∙◌, sym, ap}
use Prim.Native.Nat.{ℕ, ◌/◌, ◌%◌, ◌≤◌}
use native.Mathlib.Omega.{arith}
use lib.Dec.{eqb}
use lib.ListN.{length}
use borrow.Author.Tests.{eq-eqb}
use Rattle.bits.proofs.Truth.{choice, clash}
use Rattle.groups.specs.Vote.{vote_of}
use Rattle.groups.specs.Received.{held_with, bits_in}
use Rattle.frames.specs.Tray.{stored_of}
use Rattle.frames.proofs.TrayLaws.{stored_length}
use Rattle.replies.specs.declared.Reception.{Reception}
use Rattle.replies.specs.Replies.{most_bits}
use Rattle.replies.specs.Reception.{Received, received, start, is_whole, onwards, counted_of, step_of, after_of, Fits}

-- A cycle behind the header: a group's eighth, or another.
module _ (s : Reception) (buffer : List ℕ) (bit : ℕ) where
  pub eighth : eqb (s.cycles % 8) 7 ≡ true
      → counted_of (received s buffer) bit ≡ received (onwards s 0) (stored_of buffer (s.cycles / 8) (vote_of (bits_in (held_with s.group bit))))
  eighth e = rw e

  pub others : eqb (s.cycles % 8) 7 ≡ false → counted_of (received s buffer) bit ≡ received (onwards s (held_with s.group bit)) buffer
  others e = rw e

-- Bits in a row: one of them where more are expected, and a whole reply, which stays.
module _ (r : Received) where
  pub one_more : (bit : ℕ) (bits : List ℕ) → is_whole r.reception ≡ false → after_of r (bit ∷ bits) ≡ after_of (step_of r bit) bits
  unfolding after_of
  one_more bit bits e = rw e

  pub none_more : after_of r [] ≡ r
  unfolding after_of
  none_more = refl

pub whole_stays : (r : Received) (bits : List ℕ) → is_whole r.reception ≡ true → after_of r bits ≡ r
unfolding after_of
whole_stays r [] e = refl
whole_stays r (bit ∷ bits) e = rw e

-- So bits may come part by part.
after_by : (r : Received) (bit : ℕ) (bits more : List ℕ) (b : Bool) → is_whole r.reception ≡ b
    → after_of (step_of r bit) (bits ++ more) ≡ after_of (after_of (step_of r bit) bits) more → after_of r (bit ∷ (bits ++ more)) ≡ after_of (after_of r (bit ∷ bits)) more
after_by r bit bits more true e rest =
    whole_stays r (bit ∷ (bits ++ more)) e ∙ sym (ap (λ (q : Received). after_of q more) (whole_stays r (bit ∷ bits) e) ∙ whole_stays r more e)
after_by r bit bits more false e rest =
    one_more r bit (bits ++ more) e ∙ rest ∙ sym (ap (λ (q : Received). after_of q more) (one_more r bit bits e))

pub part_by_part : (bits more : List ℕ) (r : Received) → after_of r (bits ++ more) ≡ after_of (after_of r bits) more
part_by_part [] more r = sym (ap (λ (q : Received). after_of q more) (none_more r))
part_by_part (bit ∷ bits) more r = after_by r bit bits more (is_whole r.reception) refl (part_by_part bits more (step_of r bit))

-- It stays within the cycles that are expected.
pub start_fits : (bits : ℕ) → bits ≤ most_bits → Fits (start bits)
start_fits bits h = record { most = omega arith; within = omega arith }

module _ (s : Reception) (buffer : List ℕ) (bit : ℕ) (f : Fits s) (e : is_whole s ≡ false) where
  abbrev FitsAfter : Received → Type 0
  FitsAfter r = Fits r.reception

  further : s.found ≡ true → (group : ℕ) → Fits (onwards s group)
  further found group = record {
    most = f.most;
    within =
        let other : s.cycles ≡ s.total → ⊥ = λ same. clash (eq-eqb s.cycles s.total same) (rw found at e) in
        let l = f.within in
        omega (arith, other, l);
  }

  pub step_fits : FitsAfter (step_of (received s buffer) bit)
  step_fits =
      choice FitsAfter s.found
      (λ found. choice FitsAfter (eqb (s.cycles % 8) 7) (λ _. further found 0) (λ _. further found (held_with s.group bit)))
      (λ _. record { most = f.most; within = omega arith })

-- The buffer keeps its length.
module _ (r : Received) (bit : ℕ) where
  abbrev SameLength : Received → Type 0
  SameLength q = length q.buffer ≡ length r.buffer

  pub step_length : SameLength (step_of r bit)
  step_length =
      choice SameLength r.reception.found
      (λ _. choice SameLength (eqb (r.reception.cycles % 8) 7)
      (λ _. stored_length r.buffer (r.reception.cycles / 8) (vote_of (bits_in (held_with r.reception.group bit)))) (λ _. refl))
      (λ _. refl)

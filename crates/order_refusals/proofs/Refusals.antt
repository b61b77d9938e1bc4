-- The refusal of an order that is read, by its number.
-- Assumes nothing.
use mathlib.Core.Bool.{Bool, true, false, cond, not}
use mathlib.Core.Path.{◌≡◌, refl, subst}
use Prim.Native.Nat.{ℕ}
use native.Mathlib.Omega.{arith}
use borrow.Author.Tests.{eq-eqb, ne_eqb}
use Rattle.timing.specs.Table.{zeros_asked}
use Rattle.orders.specs.declared.Order.{Order}
use Rattle.orders.specs.declared.Context.{Context}
use Rattle.orders.specs.Fields.{order_fits, frame_count}
use Rattle.orders.specs.Composing.{order_number, zeros_fit}
use Rattle.order_refusals.specs.Refusals.{refusal, no_refusal, other_bits, few_zeros, order_refusal, number_by, refused, refused_if}
use Rattle.order_messages.specs.declared.Reason.{Reason}
use Rattle.order_messages.specs.declared.Reason.TheVariants.{UnknownName, OtherCount, WrongField, OtherBits, LongLine, FewZeros}
use Rattle.order_refusals.specs.declared.Refusal.{Refusal}
use Rattle.order_refusals.specs.declared.Refusal.TheVariants.{Line, LongStream}
use Rattle.std.proofs.Common.{Option, Some, None, is_some}
use lib.Dec.{eqb}

module _ (c : Context) (n : ℕ) (o : Order) (bytes number : ℕ) (e : number ≡ order_number c o bytes) where
  pub none_refused : number ≡ 0 → no_refusal ≡ order_refusal c n o bytes
  unfolding order_refusal
  none_refused z = rw (← e) (simp (eq-eqb number 0 z))

  pub bits_refused : (number ≡ 0 → ⊥) → number ≡ 9 → refusal 9 n other_bits (frame_count o.kind c.cnt) o.bits ≡ order_refusal c n o bytes
  unfolding order_refusal
  bits_refused z m = rw (← e) (simp (ne_eqb number 0 z, eq-eqb number 9 m))

  zeros_numbered : (number ≡ 0 → ⊥) → (number ≡ 9 → ⊥) → refusal number n few_zeros (zeros_asked c.last o.kind) o.zeros ≡ order_refusal c n o bytes
  unfolding order_refusal
  zeros_numbered z m = rw (← e) (simp (ne_eqb number 0 z, ne_eqb number 9 m))

  pub zeros_refused : (number ≡ 0 → ⊥) → (number ≡ 9 → ⊥) → refusal 10 n few_zeros (zeros_asked c.last o.kind) o.zeros ≡ order_refusal c n o bytes
  zeros_refused z m =
      subst (λ (k : ℕ). refusal k n few_zeros (zeros_asked c.last o.kind) o.zeros ≡ order_refusal c n o bytes)
      (by (order_fits c.cnt o bytes) (zeros_fit c o) e) (zeros_numbered z m)
    where
      by : (fits ahead : Bool) → number ≡ cond fits (cond ahead 0 10) 9 → number ≡ 10
      by true true f = absurd (z f)
      by true false f = f
      by false b f = absurd (m f)

-- An order whose number is not 9 is fit.
pub not_nine_fits : (c : Context) (o : Order) (bytes : ℕ) → (order_number c o bytes ≡ 9 → ⊥) → order_fits c.cnt o bytes ≡ true
not_nine_fits c o bytes n = by (order_fits c.cnt o bytes) refl
  where
    by : (b : Bool) → order_fits c.cnt o bytes ≡ b → order_fits c.cnt o bytes ≡ true
    by true e = e
    by false e = absurd (n (rw e))

pub unrefused_fits : (c : Context) (n : ℕ) (o : Order) (bytes : ℕ) → (order_refusal c n o bytes).number ≡ 0 → order_fits c.cnt o bytes ≡ true
unfolding order_refusal
unrefused_fits c n o bytes z = by (order_fits c.cnt o bytes) refl
  where
    by : (b : Bool) → order_fits c.cnt o bytes ≡ b → order_fits c.cnt o bytes ≡ true
    by true e = e
    by false e = let nine : (order_refusal c n o bytes).number ≡ 9 = rw e in absurd (omega (arith, nine, z))

-- A refusal has a number.
pub refused_number : (r : Refusal) → (refused r).number ≡ 0 → ⊥
refused_number LongStream z = omega (arith, z)
refused_number (Line n reason) z = by reason z
  where
    by : (reason : Reason) → number_by reason ≡ 0 → ⊥
    by UnknownName z = omega (arith, z)
    by OtherCount z = omega (arith, z)
    by WrongField z = omega (arith, z)
    by (OtherBits asked given) z = omega (arith, z)
    by LongLine z = omega (arith, z)
    by (FewZeros asked given) z = omega (arith, z)

pub is_refused : (r : Option Refusal) → is_some r ≡ not (eqb (refused_if r).number 0)
is_refused None = refl
is_refused (Some r) = rw (ne_eqb (refused r).number 0 (refused_number r))

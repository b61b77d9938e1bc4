-- Orders one by one: what a refusal says of the first, and of those behind it.
-- Assumes nothing.
use mathlib.Core.Bool.{true, false}
use mathlib.Core.List.{List, ◌∷◌}
use mathlib.Core.Logic.{⊎_elim}
use mathlib.Core.Path.{◌≡◌, ◌∙◌, refl, sym, ap}
use Prim.Native.Nat.{ℕ, ◌+◌}
use native.Mathlib.Omega.{arith}
use lib.Dec.{eqb}
use lib.ListN.{length}
use borrow.Author.Tests.{eq-eqb, ne_eqb, eqb-true, eqb-false}
use Rattle.bits.proofs.Truth.{cases}
use Rattle.plans.specs.declared.Plan.{Plan}
use Rattle.orders.specs.declared.Order.{Order}
use Rattle.orders.specs.declared.Context.{Context}
use Rattle.orders.specs.Composed.{Composed}
use Rattle.orders.specs.Fields.{Ordered, order_fits}
use Rattle.orders.specs.Composing.{composed, context_after, order_number, refusal_from}

-- An order that is not refused is fit.
pub number_fits : (c : Context) (o : Order) (bytes : ℕ) → order_number c o bytes ≡ 0 → order_fits c.cnt o bytes ≡ true
number_fits c o bytes e =
    ⊎_elim (λ (t : order_fits c.cnt o bytes ≡ true). t)
    (λ (f : order_fits c.cnt o bytes ≡ false). let nine : order_number c o bytes ≡ 9 = rw f in absurd (omega (arith, e, nine)))
    (cases (order_fits c.cnt o bytes))

module _ (plan : Plan) (c : Context) (n : ℕ) (x : Ordered) (xs : List Ordered) where
  pub refusal_later : order_number c x.order (length x.lent) ≡ 0
      → refusal_from plan c n (x ∷ xs) ≡ refusal_from plan (context_after plan c x.order) (n + 1) xs
  unfolding refusal_from
  refusal_later e = rw (eq-eqb _ 0 e)

  pub refusal_here : (number : ℕ) → number ≡ order_number c x.order (length x.lent) → (number ≡ 0 → ⊥)
      → refusal_from plan c n (x ∷ xs) ≡ composed number n 0
  unfolding refusal_from
  refusal_here number e some = rw (← e) (rw (ne_eqb number 0 some))

  -- None is refused: not the first.
  pub first_fits : (refusal_from plan c n (x ∷ xs)).number ≡ 0 → order_number c x.order (length x.lent) ≡ 0
  first_fits e =
      let number = order_number c x.order (length x.lent) in
      ⊎_elim (λ (t : eqb number 0 ≡ true). eqb-true number 0 t)
      (λ (f : eqb number 0 ≡ false). sym (ap (λ (r : Composed). r.number) (refusal_here number refl (eqb-false number 0 f))) ∙ e) (cases (eqb number 0))

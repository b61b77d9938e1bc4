-- Orders in words: the first of them and the rest, and CNT from one to the next.
-- Assumes nothing.
use mathlib.Core.Bool.{true, false, ◌&&◌}
use mathlib.Core.List.{List, [], ◌∷◌, ◌++◌, append-nil}
use mathlib.Core.Logic.{⊎_elim}
use mathlib.Core.Path.{◌≡◌, ◌∙◌, sym, ap}
use Prim.Native.Nat.{ℕ, suc, min, ◌+◌, ◌/◌, ◌^◌, ◌<◌, ◌≤◌}
use native.Mathlib.Omega.{arith}
use lib.Dec.{eqb, ltb}
use lib.ListN.{length, take, drop, length-append, length-drop, length-take, drop_of_length-le}
use lib.Seq.{take_all, drop-append_seam, take-append_seam}
use borrow.Author.Tests.{le-ltb, ltb-false, eqb-true}
use Rattle.std.proofs.Common.{get_or-take, inl, inr}
use Rattle.std.proofs.lemmas.Bool.{cases_lt}
use Rattle.std.proofs.lemmas.List.{nil_from_length}
use Rattle.bits.proofs.Truth.{both, cases, choice, clash, cond_case}
use Rattle.plans.specs.declared.Plan.{Plan}
use Rattle.orders.specs.declared.Order.{Order}
use Rattle.orders.specs.declared.Context.{Context}
use Rattle.orders.specs.Fields.{Ordered, order_fits, order_in, ordered_with, orders_from, orders_in}
use Rattle.orders.specs.Composing.{context_after}
use Rattle.orders.proofs.FitOrders.{fitting, register_low}
use Rattle.composing.specs.Checked.{ordered}

-- Six words off the front of those that are left, or all of them where they are fewer.
pub record Chunk (left six later : List ℕ) : Type 0 where
  pub parts : left ≡ six ++ later
  pub long : length six ≡ min 6 (length left)
  pub some : 0 < length left

module _ {left six later : List ℕ} (h : Chunk left six later) where
  no_more : length six < 6 → later ≡ []
  no_more few = nil_from_length later (omega (arith, h.long, ap length h.parts ∙ length-append six later))

  whole : length six ≡ 6 → drop 6 left ≡ later
  whole six_long = rw (h.parts, ← six_long) (drop-append_seam six later)

  chunk_later : drop 6 left ≡ later
  chunk_later =
      elim (cases_lt (length six) 6) [
        | inl few ↦ drop_of_length-le left {i = 6} (omega (arith, h.long)) ∙ sym (no_more few)
        | inr all ↦ whole (omega (arith, h.long))
      ]

  chunk_first : take 6 left ≡ six
  chunk_first =
      elim (cases_lt (length six) 6) [
        | inl few ↦ take_all 6 left (omega (arith, h.long)) ∙ h.parts ∙ ap (λ (l : List ℕ). six ++ l) (no_more few) ∙ append-nil six
        | inr all ↦ let six_long : length six ≡ 6 = omega (arith, h.long) in rw (h.parts, ← six_long) (take-append_seam six later)
      ]

-- An order is in the first six words.
first_words : (words : List ℕ) → order_in (take 6 words) ≡ order_in words
unfolding order_in
first_words words =
    elim (cases_lt (length words) 6) [
      | inl few ↦ ap order_in (take_all 6 words (omega arith))
      | inr all ↦
          rw (
            le-ltb (length words) 6 all,
            le-ltb (length (take 6 words)) 6 (omega (arith, length-take 6 words)),
            get_or-take 6 words 0 0 (omega arith),
            get_or-take 6 words 1 0 (omega arith),
            get_or-take 6 words 2 0 (omega arith),
            get_or-take 6 words 3 0 (omega arith),
            get_or-take 6 words 4 0 (omega arith),
            get_or-take 6 words 5 0 (omega arith),
          )
    ]

-- An order that is fit has all its words.
pub whole_order : (words : List ℕ) (cnt bytes : ℕ) → order_fits cnt (order_in words) bytes ≡ true → 6 ≤ length words
unfolding order_in order_fits
whole_order words cnt bytes e =
    ⊎_elim (λ (t : ltb (length words) 6 ≡ true). let none : order_fits cnt (order_in words) bytes ≡ false = rw t in clash e none)
    (λ (f : ltb (length words) 6 ≡ false). ltb-false (length words) 6 f) (cases (ltb (length words) 6))

module _ (frames words : List ℕ) where
  first_order : 0 < length words → orders_in frames words ≡ ordered_with frames (order_in words) ∷ orders_in frames (drop 6 words)
  unfolding orders_from
  first_order h =
      let e : (length words + 5) / 6 ≡ suc ((length (drop 6 words) + 5) / 6) = omega (arith, length-drop 6 words) in
      ap (λ n. orders_from n frames words) e

  pub no_orders : length words ≡ 0 → orders_in frames words ≡ []
  unfolding orders_from
  no_orders h = let e : (length words + 5) / 6 ≡ 0 = omega arith in ap (λ n. orders_from n frames words) e

-- An order that was read off such words, with the bytes that were found for it, and those behind them.
pub orders_apart : (frames : List ℕ) {left six later : List ℕ} → Chunk left six later → (o : Order) (lent : List ℕ) → o ≡ order_in six
    → lent ≡ drop o.frame frames → orders_in frames left ≡ ordered o lent ∷ orders_in frames later
orders_apart frames {left} {six} {later} h o lent is Lent-is =
    let here : o ≡ order_in left = is ∙ ap order_in (sym (chunk_first h)) ∙ first_words left in
    first_order frames left h.some
    ∙ ap (λ (l : List ℕ). ordered_with frames (order_in left) ∷ orders_in frames l) (chunk_later h)
    ∙ ap (λ (x : Ordered). x ∷ orders_in frames later) (sym ((λ i. ordered o (Lent-is i)) ∙ ap (ordered_with frames) here))

-- CNT stays within its register.
pub cnt_narrow : (plan : Plan) (c : Context) (o : Order) (bytes : ℕ) → c.cnt < 2 ^ 16 → order_fits c.cnt o bytes ≡ true
    → (context_after plan c o).cnt < 2 ^ 16
cnt_narrow plan c o bytes h e =
    let f = fitting c.cnt o bytes e in
    cond_case (λ (n : ℕ). n < 2 ^ 16) (eqb o.kind 41) (λ _. omega arith)
    (λ _. choice (λ (n : ℕ). n < 2 ^ 16) (eqb o.kind 32 && eqb o.address plan.cnt)
    (λ t. register_low f (eqb-true o.kind 32 (both (eqb o.kind 32) _ t).0)) (λ _. h))

-- The rows of an order are its refusals.
-- Assumes nothing.
use mathlib.Core.Path.{◌≡◌, ◌∙◌, refl, sym, ap}
use mathlib.Core.Bool.{Bool, true, false, cond, not, ◌&&◌, ◌||◌}
use mathlib.Core.Logic.{⊎_elim}
use Prim.Native.Nat.{ℕ, ◌+◌, ◌*◌, ◌/◌, ◌%◌, ◌≤◌}
use native.Mathlib.Omega.{arith}
use lib.Dec.{ltb, leb, eqb}
use lib.ListN.{length}
use borrow.Author.Tests.{ne_eqb, leb-true, leb-false, lt-leb, le-leb, ltb-true, ltb-false, lt-ltb, le-ltb}
use Rattle.bits.proofs.Truth.{cases}
use Rattle.bits.proofs.Below.{below_at}
use Rattle.timing.specs.Table.{among_kinds, zeros_asked}
use Rattle.orders.specs.declared.Order.{Order}
use Rattle.orders.specs.declared.Context.{Context}
use Rattle.orders.specs.Fields.{Ordered, order, is_known, address_fits, value_fits, frame_fits, order_fits}
use Rattle.orders.specs.Composing.{order_number}
use Rattle.orders.proofs.FitOrders.{unknown_above}
use Rattle.round_trip.proofs.KnownKinds.{EachKind, known_case}
use Rattle.promises.specs.Refusals.{first_of}
use Rattle.stream_promises.specs.Composing.{order_kinds, wrong_field, is_wrong, has_few_zeros, order_rows}
use Rattle.promises.proofs.Refusals.{not_leb, not_and}

-- The kinds, as a list and by their halves.
kinds_above : (kind : ℕ) → 256 ≤ kind → among_kinds kind order_kinds ≡ false
kinds_above kind h =
    simp (
      ne_eqb kind 1 (λ e. omega arith),
      ne_eqb kind 0x11 (λ e. omega arith),
      ne_eqb kind 0x12 (λ e. omega arith),
      ne_eqb kind 0x14 (λ e. omega arith),
      ne_eqb kind 0x18 (λ e. omega arith),
      ne_eqb kind 0x20 (λ e. omega arith),
      ne_eqb kind 0x21 (λ e. omega arith),
      ne_eqb kind 0x22 (λ e. omega arith),
      ne_eqb kind 0x23 (λ e. omega arith),
      ne_eqb kind 0x24 (λ e. omega arith),
      ne_eqb kind 0x25 (λ e. omega arith),
      ne_eqb kind 0x26 (λ e. omega arith),
      ne_eqb kind 0x28 (λ e. omega arith),
      ne_eqb kind 0x29 (λ e. omega arith),
      ne_eqb kind 0x2A (λ e. omega arith),
    )

same_kinds : (kind : ℕ) → is_known kind ≡ among_kinds kind order_kinds
same_kinds kind =
    ⊎_elim (λ (t : leb 256 kind ≡ true). let h = leb-true 256 kind t in unknown_above kind h ∙ sym (kinds_above kind h))
    (λ (f : leb 256 kind ≡ false). below_at 256 is_known (λ k. among_kinds k order_kinds) refl kind (leb-false 256 kind f)) (cases (leb 256 kind))

-- A size, as a limit that is reached or not.
reached : (n limit : ℕ) → leb limit n ≡ not (ltb n limit)
reached n limit =
    ⊎_elim (λ (t : ltb n limit ≡ true). lt-leb limit n (ltb-true n limit t) ∙ sym (ap not t))
    (λ (f : ltb n limit ≡ false). le-leb limit n (ltb-false n limit f) ∙ sym (ap not f)) (cases (ltb n limit))

missing : (bits bytes : ℕ) → ltb (8 * bytes) bits ≡ not (leb bits (8 * bytes))
missing bits bytes = sym (not_leb bits (8 * bytes))

one_field : (a : Bool) → (not a || false) ≡ not (a && true)
one_field true = refl
one_field false = refl

two_fields : (a b : Bool) → (not a || (not b || false)) ≡ not (a && (b && true))
two_fields true true = refl
two_fields true false = refl
two_fields false b = refl

-- The fields of a known command.
module _ (cnt zeros address value frame bits bytes : ℕ) where
  abbrev Fields : ℕ → Type 0
  Fields kind =
      let o = order kind zeros address value frame bits in
      wrong_field cnt o bytes ≡ not (address_fits o && (value_fits o && frame_fits cnt o bytes))

  each_field : EachKind Fields
  each_field = record {
    lv1 = refl;
    bcr = refl;
    ecr = refl;
    cal = refl;
    sync = refl;
    write_register = (λ i. reached address 16 i || (reached value 65536 i || false)) ∙ two_fields (ltb address 16) (ltb value 65536);
    read_register = (λ i. reached address 16 i || false) ∙ one_field (ltb address 16);
    write_fifo = (λ i. reached value 134217728 i || false) ∙ one_field (ltb value 134217728);
    read_fifo = (λ i. reached address 16 i || false) ∙ one_field (ltb address 16);
    write_front_end = frame_field (eqb bits (cnt / 8 + cnt % 8 * 8));
    read_front_end = frame_field (eqb bits (cnt / 8 + cnt % 8 * 8));
    write_receiver = frame_field (eqb bits (cnt % 8192 * 8));
    enable = refl;
    reset = refl;
    reset_front_ends = (λ i. reached value 16 i || false) ∙ one_field (ltb value 16);
  }
    where
      frame_field : (counted : Bool) → (not counted || ltb (8 * bytes) bits) ≡ not (counted && leb bits (8 * bytes))
      frame_field counted = ap (λ b. not counted || b) (missing bits bytes) ∙ sym (not_and counted (leb bits (8 * bytes)))

-- Two rows, by whether the fields fit.
two_rows : (known fields : Bool) (zeros asked : ℕ)
    → ◌≡◌ {A = ℕ} (cond (not known || not fields) 9 (cond (ltb zeros asked) 10 0)) (cond (known && fields) (cond (leb asked zeros) 0 10) 9)
two_rows true true zeros asked =
    ⊎_elim (λ (t : leb asked zeros ≡ true). rw (t, le-ltb zeros asked (leb-true asked zeros t)))
    (λ (f : leb asked zeros ≡ false). rw (f, lt-ltb zeros asked (leb-false asked zeros f))) (cases (leb asked zeros))
two_rows true false zeros asked = refl
two_rows false fields zeros asked = refl

module _ (c : Context) (x : Ordered) where
  abbrev o : Order
  o = x.order

  abbrev fields : Bool
  fields = address_fits o && (value_fits o && frame_fits c.cnt o (length x.lent))

  -- of a command that is not known they do not matter
  wrong : (known : Bool) → is_known o.kind ≡ known → (not known || wrong_field c.cnt o (length x.lent)) ≡ (not known || not fields)
  wrong true e =
      known_case (Fields c.cnt o.zeros o.address o.value o.frame o.bits (length x.lent))
      (each_field c.cnt o.zeros o.address o.value o.frame o.bits (length x.lent)) o.kind e
  wrong false e = refl

  pub order_rows_lem : first_of (order_rows c x) ≡ order_number c o (length x.lent)
  unfolding order_fits is_wrong has_few_zeros
  order_rows_lem =
      let asked = zeros_asked c.last o.kind in
      ap (λ (k : Bool). cond {A = ℕ} (not k || wrong_field c.cnt o (length x.lent)) 9 (cond (ltb o.zeros asked) 10 0)) (sym (same_kinds o.kind))
      ∙ ap (λ (w : Bool). cond {A = ℕ} w 9 (cond (ltb o.zeros asked) 10 0)) (wrong (is_known o.kind) refl)
      ∙ two_rows (is_known o.kind) fields o.zeros asked

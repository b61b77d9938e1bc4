-- The fifteen kinds of orders, one by one.
-- Assumes nothing.
use mathlib.Core.Bool.{true, false}
use mathlib.Core.List.{List, [], ◌∷◌, ◌++◌}
use mathlib.Core.Logic.{⊎_elim}
use mathlib.Core.Path.{◌≡◌, ◌∙◌, refl, sym, subst}
use Prim.Native.Nat.{ℕ, ◌+◌, ◌-◌, ◌<◌, ◌≤◌}
use native.Mathlib.Omega.{arith}
use lib.Dec.{ltb, eqb}
use borrow.Author.Tests.{ltb-true, ltb-false, le-leb, lt-leb, ne_eqb, eqb-true}
use Rattle.bits.proofs.Truth.{cases, clash, either}
use Rattle.bits.proofs.Below.{below_at}
use Rattle.records.specs.Records.{kind_lv1}
use Rattle.timing.specs.Table.{fast_kinds, slow_kinds, among_kinds}
use Rattle.orders.specs.Fields.{is_known}

abbrev kinds : List ℕ
kinds = kind_lv1 ∷ fast_kinds ++ slow_kinds

-- No kind past 3F is known.
unknown_high : (kind : ℕ) → 64 ≤ kind → is_known kind ≡ false
unknown_high kind high =
    simp (
      ne_eqb kind 1 (λ e. omega arith),
      le-leb 32 kind (omega arith),
      lt-leb (kind - 32) 6 (omega arith),
      lt-leb (kind - 32) 10 (omega arith),
      le-leb 8 (kind - 32) (omega arith),
    )

known_low : (kind : ℕ) → is_known kind ≡ true → kind < 64
known_low kind known = ⊎_elim (ltb-true kind 64) (λ f. clash known (unknown_high kind (ltb-false kind 64 f))) (cases (ltb kind 64))

known_among : (kind : ℕ) → is_known kind ≡ true → among_kinds kind kinds ≡ true
known_among kind known = sym (below_at 64 is_known (λ k. among_kinds k kinds) refl kind (known_low kind known)) ∙ known

-- What holds of each of some kinds.
abbrev Each : (ℕ → Type 0) → List ℕ → Type 0
Each P [] = Unit {0}
Each P (k ∷ ks) = P k × Each P ks

among_case : (P : ℕ → Type 0) (ks : List ℕ) → Each P ks → (kind : ℕ) → among_kinds kind ks ≡ true → P kind
among_case P [] each kind e = clash e refl
among_case P (k ∷ ks) each kind e =
    ⊎_elim (λ t. subst P (sym (eqb-true kind k t)) each.0) (among_case P ks each.1 kind) (either (eqb kind k) (among_kinds kind ks) e)

-- What holds of each kind holds of every known one.
pub record EachKind (P : ℕ → Type 0) : Type 0 where
  pub lv1 : P 0x01
  pub bcr : P 0x11
  pub ecr : P 0x12
  pub cal : P 0x14
  pub sync : P 0x18
  pub write_register : P 0x20
  pub read_register : P 0x21
  pub write_fifo : P 0x22
  pub read_fifo : P 0x23
  pub write_front_end : P 0x24
  pub read_front_end : P 0x25
  pub write_receiver : P 0x26
  pub enable : P 0x28
  pub reset : P 0x29
  pub reset_front_ends : P 0x2A

pub known_case : (P : ℕ → Type 0) → EachKind P → (kind : ℕ) → is_known kind ≡ true → P kind
known_case P each kind known =
    among_case P kinds (
      each.lv1,
      (
        each.bcr,
        (
          each.ecr,
          (
            each.cal,
            (
              each.sync,
              (
                each.write_register,
                (
                  each.read_register,
                  (
                    each.write_fifo,
                    (
                      each.read_fifo,
                      (each.write_front_end, (each.read_front_end, (each.write_receiver, (each.enable, (each.reset, (each.reset_front_ends, tt)))))),
                    ),
                  ),
                ),
              ),
            ),
          ),
        ),
      ),
    )
    kind (known_among kind known)

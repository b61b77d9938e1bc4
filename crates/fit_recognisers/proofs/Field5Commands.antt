-- The commands that have a Field 5, those that keep its bits, by its length, and those with groups.
-- Assumes nothing.
use mathlib.Core.Path.{◌≡◌, ◌∙◌, refl}
use mathlib.Core.Bool.{false, ◌&&◌, ◌||◌}
use mathlib.Core.Logic.{⊎_elim}
use Prim.Native.Nat.{ℕ, ◌≤◌, ◌<◌}
use native.Mathlib.Omega.{arith}
use borrow.Author.Tests.{ne_eqb}
use lib.Dec.{T, leb, eqb, eqb→eq, nleb→lt, lit≤, T_not}
use Rattle.bits.proofs.Truth.{or_case, or_else, stable, and_all}
use Rattle.recogniser.specs.declared.Recogniser.{Recogniser}
use Rattle.slow_fields.specs.Slow.{length_of}
use Rattle.slow_fields.proofs.Lengths.{length_beyond}
use Rattle.fit_recognisers.specs.Fit.{has_field5, keeps, held_fits, has_groups, group_fits}

-- What holds of WrRegister, WrFifo and GlobalResetFE holds of a command that keeps the bits of Field 5: at most 27, and the group does not count.
by_kept : (P : ℕ → Type 0) (command : ℕ) → T (keeps command) → P 0 → P 2 → P 10 → P command
by_kept P command t zero two ten =
    ⊎_elim (λ e. rw (eqb→eq command 0 e) zero)
    (λ u. ⊎_elim (λ e. rw (eqb→eq command 2 e) two) (λ e. rw (eqb→eq command 10 e) ten)
    (or_case (eqb command 2) (eqb command 10) u))
    (or_case (eqb command 0) (eqb command 2 || eqb command 10) t)

pub kept_most : (command cnt : ℕ) → T (keeps command) → length_of command cnt ≤ 27
kept_most command cnt t = by_kept (λ c. length_of c cnt ≤ 27) command t (lit≤ tt) (lit≤ tt) (lit≤ tt)

pub number_alone : (r : Recogniser) → T (keeps r.command) → (held_fits r && group_fits r) ≡ held_fits r
number_alone r t =
    let ungrouped : has_groups r.command ≡ false = by_kept (λ c. has_groups c ≡ false) r.command t refl refl refl in
    rw ungrouped (and_all (held_fits r))

length_none : (command cnt : ℕ) → 6 < command → (command ≡ 10 → ⊥) → length_of command cnt ≡ 0
length_none command cnt h n =
    length_beyond command cnt (omega arith) ∙ simp (ne_eqb command 6 (omega arith), ne_eqb command 10 n)

-- A command with bits of Field 5 is one that has it.
pub length_has : (command cnt : ℕ) → 0 < length_of command cnt → T (has_field5 command)
length_has command cnt h =
    or_else (leb command 6) (eqb command 10)
    (λ t. stable (eqb command 10)
    (λ n. omega (arith, length_none command cnt (nleb→lt command 6 t) (λ e. T_not (eqb command 10) n (rw e tt)))))

-- What holds of WrFrontEnd and RdFrontEnd holds of a command that carries each bit for eight cycles.
pub by_front_end : (P : ℕ → Type 0) (command : ℕ) → T (has_groups command) → P 4 → P 5 → P command
by_front_end P command t four five =
    ⊎_elim (λ e. rw (eqb→eq command 4 e) four) (λ e. rw (eqb→eq command 5 e) five) (or_case (eqb command 4) (eqb command 5) t)

-- A step keeps a recogniser fit, phase by phase.
-- Assumes nothing.
use mathlib.Core.Path.{◌≡◌, refl, ap}
use mathlib.Core.Bool.{Bool, false, not, ◌||◌}
use Prim.Native.Nat.{ℕ, ◌+◌, ◌%◌, ◌^◌, ◌<◌}
use native.Mathlib.Omega.{arith}
use lib.Dec.{T, ltb, eqb, ltb→lt, lt→ltb, nleb→lt, eqb→eq, T_not}
use Rattle.bits.specs.Bits.{shifted}
use Rattle.bits.proofs.Truth.{cond_case, cond_taken, and_both, and_left, and_right}
use Rattle.bits.proofs.Shift.{shifted_fits, fits_wider, shifted_grows}
use Rattle.groups.specs.Received.{left_by_some}
use Rattle.groups.proofs.LeftBits.{left_more}
use Rattle.recogniser.specs.declared.Phase.{Phase}
use Rattle.recogniser.specs.declared.Phase.TheVariants.{Hunt, Body, Field3, Field4, Field5}
use Rattle.windows.specs.declared.Meaning.{Meaning}
use Rattle.windows.specs.declared.Meaning.TheVariants.{Quiet, Trigger, Header}
use Rattle.recogniser.specs.declared.Recogniser.{Recogniser}
use Rattle.recogniser.specs.declared.Transition.{Transition}
use Rattle.recogniser.specs.Parts.{start_of, gathered_of}
use Rattle.windows.specs.Windows.{is_fast, meaning_of}
use Rattle.recogniser.specs.Hunting.{hunt_by, body_of}
use Rattle.slow_fields.specs.Slow.{is_frame, length_of, kept_of}
use Rattle.recogniser.specs.Fields.{ends_of, field3_of, field4_of}
use Rattle.recogniser.specs.Groups.{is_eighth, group_of, unsteady_of}
use Rattle.recogniser.specs.Step.{field5_of, step_by, step_of}
use Rattle.fit_recognisers.specs.Fit.{has_field5, keeps, has_groups, nibble_fits, field4_fits, held_fits, group_fits, field5_fits, fit_by, fit_of}
use Rattle.fit_recognisers.proofs.Field5Commands.{length_has, by_front_end}

-- What the test of Field 5 says.
record InField5 (r : Recogniser) (cnt : ℕ) : Type 0 where
  has : T (has_field5 r.command)
  address : r.address < 16
  count : r.count < length_of r.command cnt
  held : T (keeps r.command) → r.held < 2 ^ r.count
  group : T (has_groups r.command) → T (left_by_some (r.count % 8) r.group)

module _ (r : Recogniser) where
  nibble : r.count < 4 → r.shift < 2 ^ r.count → T (nibble_fits r)
  nibble p q = and_both (ltb r.count 4) _ (lt→ltb r.count 4 p) (lt→ltb r.shift (2 ^ r.count) q)

  shift_fits : T (nibble_fits r) → r.shift < 2 ^ r.count
  shift_fits t = ltb→lt r.shift (2 ^ r.count) (and_right (ltb r.count 4) _ t)

  in_field5 : (cnt : ℕ) → InField5 r cnt → T (field5_fits r cnt)
  in_field5 cnt f =
      and_both (has_field5 r.command) _ f.has
      (and_both (ltb r.address 16) _ (lt→ltb r.address 16 f.address)
      (and_both (ltb r.count (length_of r.command cnt)) _ (lt→ltb r.count _ f.count)
      (and_both (held_fits r) _ (cond_case T (keeps r.command) (λ k. lt→ltb r.held (2 ^ r.count) (f.held k)) (λ _. tt))
      (cond_case T (has_groups r.command) f.group (λ _. tt)))))

  of_field5 : (cnt : ℕ) → T (field5_fits r cnt) → InField5 r cnt
  of_field5 cnt t =
      let u = and_right (has_field5 r.command) _ t in
      let v = and_right (ltb r.address 16) _ u in
      let w = and_right (ltb r.count (length_of r.command cnt)) _ v in
      record {
        has = and_left (has_field5 r.command) _ t;
        address = ltb→lt r.address 16 (and_left (ltb r.address 16) _ u);
        count = ltb→lt r.count _ (and_left (ltb r.count (length_of r.command cnt)) _ v);
        held = λ k. ltb→lt r.held (2 ^ r.count) (rw (cond_taken (keeps r.command) _ _ k) at (and_left (held_fits r) _ w));
        group = λ g. rw (cond_taken (has_groups r.command) _ _ g) at (and_right (held_fits r) (group_fits r) w);
      }

-- One bit further in Field 5, with what is held then.
abbrev further : Recogniser → ℕ → ℕ → Bool → Recogniser
further r held group unsteady = record {
  phase = r.phase;
  shift = r.shift;
  count = r.count + 1;
  command = r.command;
  address = r.address;
  held = held;
  group = group;
  unsteady = unsteady;
}

abbrev pub Fit : ℕ → Transition → Type 0
Fit cnt h = T (fit_of h.next cnt)

pub hunt_fits : (w cnt : ℕ) → w < 32 → (m : Meaning) → Fit cnt (hunt_by w m)
unfolding fit_of
hunt_fits w cnt h Quiet = lt→ltb w 32 h
hunt_fits w cnt h (Trigger position) = tt
hunt_fits w cnt h Header = tt

module _ (r : Recogniser) (bit cnt : ℕ) (b : bit < 2) where
  gathered : T (nibble_fits r) → T (ltb r.count 3) → T (nibble_fits (gathered_of r (shifted 4 r.shift bit)).next)
  gathered t q =
      nibble (gathered_of r (shifted 4 r.shift bit)).next
      (omega (arith, ltb→lt r.count 3 q))
      (shifted_grows r.shift bit b 4 r.count (shift_fits r t))

  pub body_fits : r.phase ≡ Body → T (nibble_fits r) → Fit cnt (body_of r bit)
  unfolding fit_of
  body_fits e t =
      cond_case (Fit cnt) (ltb r.count 3) (λ q. rw e (gathered t q))
      (λ _. cond_case (Fit cnt) (is_fast (shifted 4 r.shift bit)) (λ _. tt)
      (λ _. cond_case (Fit cnt) (eqb (shifted 4 r.shift bit) 0b1011) (λ _. tt) (λ _. tt)))

  pub field3_fits : r.phase ≡ Field3 → T (nibble_fits r) → Fit cnt (field3_of r bit)
  unfolding fit_of
  field3_fits e t =
      cond_case (Fit cnt) (ltb r.count 3) (λ q. rw e (gathered t q))
      (λ _. lt→ltb (shifted 4 r.shift bit) 16 (shifted_fits 4 r.shift bit))

  pub field4_fits_lem : r.phase ≡ Field4 → T (field4_fits r) → Fit cnt (field4_of r bit cnt)
  unfolding fit_of
  field4_fits_lem e t =
      cond_case (Fit cnt) (ltb r.count 3)
      (λ q. rw e
      (and_both (nibble_fits (gathered_of r (shifted 4 r.shift bit)).next) _
      (gathered (and_left (nibble_fits r) _ t) q) (and_right (nibble_fits r) _ t)))
      (λ _. cond_case (Fit cnt) (ltb 0 (length_of r.command cnt))
      (λ q. in_field5 (start_of Field5 0 r.command (shifted 4 r.shift bit)) cnt (record {
        has = length_has r.command cnt (ltb→lt 0 _ q);
        address = shifted_fits 4 r.shift bit;
        count = ltb→lt 0 _ q;
        held = λ _. omega arith;
        group = λ _. tt;
      }))
      (λ _. cond_case (Fit cnt) (is_frame r.command) (λ _. tt) (λ _. tt)))

  -- Field 5 goes on.
  goes_on : (held group : ℕ) (unsteady : Bool) → T (field5_fits r cnt) → T (not (ends_of r cnt))
      → (T (keeps r.command) → held < 2 ^ (r.count + 1)) → (T (has_groups r.command) → T (left_by_some ((r.count + 1) % 8) group)) →
      T (field5_fits (further r held group unsteady) cnt)
  goes_on held group unsteady t q k g =
      let f = of_field5 r cnt t in
      in_field5 (further r held group unsteady) cnt (record {
        has = f.has;
        address = f.address;
        count = nleb→lt (length_of r.command cnt) (r.count + 1) q;
        held = k;
        group = g;
      })

  kept_fits : r.held < 2 ^ r.count → kept_of r.command r.held bit < 2 ^ (r.count + 1)
  kept_fits h =
      let g = shifted_grows r.held bit b 32 r.count h in
      cond_case (λ (v : ℕ). v < 2 ^ (r.count + 1)) (eqb r.command 1 || eqb r.command 3) (λ _. omega arith) (λ _. g)

  -- A group with one bit more; a finished one leaves nothing.
  group_fits_lem : T (has_groups r.command) → T (left_by_some (r.count % 8) r.group) → T (left_by_some ((r.count + 1) % 8) (group_of r bit))
  group_fits_lem g t =
      let grouped : eqb r.command 6 ≡ false = by_front_end (λ c. eqb c 6 ≡ false) r.command g refl refl in
      rw grouped
      (cond_case (λ (g : ℕ). T (left_by_some ((r.count + 1) % 8) g)) (is_eighth r.count)
      (λ e.
      let seven = eqb→eq (r.count % 8) 7 e in
      let none : (r.count + 1) % 8 ≡ 0 = omega arith in
      rw none tt)
      (λ n.
      let other : r.count % 8 ≡ 7 → ⊥ = λ e. T_not (is_eighth r.count) n (rw e tt) in
      let more : (r.count + 1) % 8 ≡ r.count % 8 + 1 = omega arith in
      rw more (left_more (r.count % 8) r.group bit (omega arith) b t)))

  pub field5_fits_lem : r.phase ≡ Field5 → T (field5_fits r cnt) → Fit cnt (field5_of r bit cnt)
  unfolding fit_of
  field5_fits_lem e t =
      let f = of_field5 r cnt t in
      let h = f.held in
      cond_case (Fit cnt) (is_frame r.command)
      (λ i. cond_case (Fit cnt) (ends_of r cnt) (λ _. tt)
      (λ q. rw e
      (goes_on r.held (group_of r bit) (unsteady_of r bit) t q (λ k. fits_wider r.held r.count (h k))
      (λ g. group_fits_lem g (f.group g)))))
      (λ i. cond_case (Fit cnt) (ends_of r cnt) (λ _. tt)
      (λ q. rw e
      (goes_on (kept_of r.command r.held bit) r.group r.unsteady t q (λ k. kept_fits (h k))
      (λ g. absurd (T_not (is_frame r.command) i (by_front_end (λ c. T (is_frame c)) r.command g tt tt))))))

-- The test by the phase.
pub fit_at : (r : Recogniser) (cnt : ℕ) {p : Phase} → r.phase ≡ p → fit_of r cnt ≡ fit_by p r cnt
unfolding fit_of
fit_at r cnt e = ap (λ (q : Phase). fit_by q r cnt) e

-- The start of a hunt is fit.
pub start_fits : (cnt : ℕ) → T (fit_of (start_of Hunt 0 0 0) cnt)
unfolding fit_of
start_fits cnt = tt

step_fits_by : (r : Recogniser) (bit cnt : ℕ) → bit < 2 → (p : Phase) → r.phase ≡ p → T (fit_by p r cnt) → Fit cnt (step_by p r bit cnt)
step_fits_by r bit cnt b Hunt e t = hunt_fits (shifted 5 r.shift bit) cnt (shifted_fits 5 r.shift bit) (meaning_of (shifted 5 r.shift bit))
step_fits_by r bit cnt b Body e t = body_fits r bit cnt b e t
step_fits_by r bit cnt b Field3 e t = field3_fits r bit cnt b e t
step_fits_by r bit cnt b Field4 e t = field4_fits_lem r bit cnt b e t
step_fits_by r bit cnt b Field5 e t = field5_fits_lem r bit cnt b e t

-- A step keeps a recogniser fit.
pub step_fits : (r : Recogniser) (bit cnt : ℕ) → bit < 2 → T (fit_of r cnt) → T (fit_of (step_of r bit cnt).next cnt)
unfolding step_of fit_of
step_fits r bit cnt b t = step_fits_by r bit cnt b r.phase refl t

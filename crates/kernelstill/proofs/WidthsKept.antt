-- A taking call keeps a state's numbers within their widths, as the image has them.
-- Assumes nothing.
use mathlib.Core.Bool.{true, false, not, ◌||◌}
use mathlib.Core.Logic.{◌⊎◌, inl, inr, ⊎_elim}
use mathlib.Core.List.{List, [], ◌∷◌}
use mathlib.Core.Path.{◌≡◌, ◌∙◌, refl, sym, subst}
use Prim.Native.Nat.{ℕ, ◌+◌, ◌^◌, ◌<◌}
use native.Mathlib.Omega.{arith}
use lib.Dec.{T, ltb, eqb, ltb→lt, nleb→lt}
use lib.ListN.{length, get_or, set, length-set, get_or-replicate, get_or-eq_default}
use lib.Seq.{get_or-set_same, get_or-set_other}
use borrow.Author.Tests.{ltb-true, ltb-false, eqb-true, eqb-false}
use Rattle.bits.specs.Bits.{shifted}
use Rattle.bits.proofs.Truth.{cases, choice, cond_case}
use Rattle.bits.proofs.Shift.{shifted_fits}
use Rattle.recogniser.specs.declared.Phase.{Phase}
use Rattle.recogniser.specs.declared.Phase.TheVariants.{Hunt, Body, Field3, Field4, Field5}
use Rattle.windows.specs.declared.Meaning.{Meaning}
use Rattle.windows.specs.declared.Meaning.TheVariants.{Quiet, Trigger, Header}
use Rattle.recogniser.specs.declared.Request.{Request}
use Rattle.recogniser.specs.declared.Recogniser.{Recogniser}
use Rattle.recogniser.specs.declared.Transition.{Transition}
use Rattle.recogniser.specs.Parts.{start_of, standing}
use Rattle.windows.specs.Windows.{is_fast, meaning_of}
use Rattle.recogniser.specs.Hunting.{hunt_by}
use Rattle.slow_fields.specs.Slow.{is_frame, length_of, kept_of}
use Rattle.recogniser.specs.Fields.{ends_of}
use Rattle.recogniser.specs.Groups.{is_eighth, group_of}
use Rattle.recogniser.specs.Step.{step_by, step_of}
use Rattle.slow_fields.proofs.Lengths.{length_most}
use Rattle.plans.specs.declared.Plan.{Plan}
use Rattle.registers.specs.declared.Model.{Model}
use Rattle.registers.specs.declared.Pointers.{Pointers}
use Rattle.registers.specs.Registers.{zeros16}
use Rattle.registers.specs.Parts.{zero_pointers}
use Rattle.fifos.specs.Fifos.{moved_on}
use Rattle.decoder.specs.declared.Decoder.{Decoder}
use Rattle.controller.specs.Widths.{ModelFits}
use Rattle.controller.proofs.EffectCases.{act_keeps, write_keeps}
use Rattle.controller.proofs.EffectKeeps.{after, model_fits}
use Rattle.calls.specs.Run.{state_after}
use Rattle.calls.specs.Turn.{System, system_of, decoder_of, cnt_at, effect_at, transition_of, turn_of}
use Rattle.calls.specs.Take.{Call, lent, take_of}
use Rattle.calls.specs.Calls.{bits_taken}
use Rattle.calls.proofs.CallLists.{call_kept}
use Rattle.calls.proofs.SoundnessKept.{stamp}
use Rattle.timing.proofs.Flagged.{byte_kind_next}
use Rattle.image_fields.specs.Fields as field
use Rattle.image_fields.specs.Image.{Widths, ArrayKeeps}

-- The recogniser's numbers.
record Narrow (r : Recogniser) : Type 0 where
  shift : r.shift < 2 ^ 8
  command : r.command < 2 ^ 8
  address : r.address < 2 ^ 8
  count : r.count < 2 ^ 32
  held : r.held < 2 ^ 32
  group : r.group < 2 ^ 8

abbrev NarrowNext : Transition → Type 0
NarrowNext h = Narrow h.next

start_narrow : (p : Phase) {w : ℕ} → w < 32 → Narrow (start_of p w 0 0)
start_narrow p h = record { shift = omega arith; command = omega arith; address = omega arith; count = omega arith; held = omega arith; group = omega arith }

idle_narrow : (p : Phase) → Narrow (start_of p 0 0 0)
idle_narrow p = start_narrow p (omega arith)

hunt_narrow : (w : ℕ) → w < 32 → (m : Meaning) → NarrowNext (hunt_by w m)
hunt_narrow w h Quiet = start_narrow Hunt h
hunt_narrow w h (Trigger position) = idle_narrow Hunt
hunt_narrow w h Header = idle_narrow Body

module _ (r : Recogniser) (bit cnt : ℕ) (low : cnt < 2 ^ 16) (n : Narrow r) where
  gathered_narrow : T (ltb r.count 3)
      → Narrow (standing r (shifted 4 r.shift bit) (r.count + 1))
  gathered_narrow t =
      let few = ltb→lt r.count 3 t in
      let s = shifted_fits 4 r.shift bit in
      record { shift = omega arith; command = n.command; address = n.address; count = omega arith; held = n.held; group = n.group }

  further : T (not (ends_of r cnt)) → r.count + 1 < 2 ^ 32
  further t = omega (arith, nleb→lt (length_of r.command cnt) (r.count + 1) t, length_most r.command cnt low)

  phase_narrow : (p : Phase) → NarrowNext (step_by p r bit cnt)
  phase_narrow Hunt = hunt_narrow (shifted 5 r.shift bit) (shifted_fits 5 r.shift bit) (meaning_of (shifted 5 r.shift bit))
  phase_narrow Body =
      cond_case NarrowNext (ltb r.count 3) gathered_narrow
      (λ _. cond_case NarrowNext (is_fast (shifted 4 r.shift bit)) (λ _. idle_narrow Hunt)
      (λ _. cond_case NarrowNext (eqb (shifted 4 r.shift bit) 0b1011) (λ _. idle_narrow Field3) (λ _. idle_narrow Hunt)))
  phase_narrow Field3 =
      let s = shifted_fits 4 r.shift bit in
      cond_case NarrowNext (ltb r.count 3) gathered_narrow
      (λ _. record { shift = omega arith; command = omega arith; address = omega arith; count = omega arith; held = omega arith; group = omega arith })
  phase_narrow Field4 =
      let s = shifted_fits 4 r.shift bit in
      cond_case NarrowNext (ltb r.count 3) gathered_narrow
      (λ _. cond_case NarrowNext (ltb 0 (length_of r.command cnt))
      (λ _. record { shift = omega arith; command = n.command; address = omega arith; count = omega arith; held = omega arith; group = omega arith })
      (λ _. cond_case NarrowNext (is_frame r.command) (λ _. idle_narrow Hunt) (λ _. idle_narrow Hunt)))
  phase_narrow Field5 =
      cond_case NarrowNext (is_frame r.command)
      (λ _. cond_case NarrowNext (ends_of r cnt) (λ _. idle_narrow Hunt)
      (λ t. record { shift = n.shift; command = n.command; address = n.address; count = further t; held = n.held; group = group_low }))
      (λ _. cond_case NarrowNext (ends_of r cnt) (λ _. idle_narrow Hunt)
      (λ t. record { shift = n.shift; command = n.command; address = n.address; count = further t; held = kept_low; group = n.group }))
    where
      kept_low : kept_of r.command r.held bit < 2 ^ 32
      kept_low =
          choice (λ v. v < 2 ^ 32) (eqb r.command 1 || eqb r.command 3) (λ _. omega arith) (λ _. shifted_fits 32 r.held bit)

      group_low : group_of r bit < 2 ^ 8
      group_low =
          choice (λ v. v < 2 ^ 8) (eqb r.command 6) (λ _. omega arith)
          (λ _. choice (λ v. v < 2 ^ 8) (is_eighth r.count) (λ _. omega arith) (λ _. shifted_fits 8 r.group bit))

  step_narrow : NarrowNext (step_of r bit cnt)
  unfolding step_of
  step_narrow = phase_narrow r.phase

-- The model's arrays.
abbrev Bytes : List ℕ → Type 0
Bytes l = ArrayKeeps (field.bits 8) l

bytes_zero : Bytes zeros16
bytes_zero = record { long = refl; keeps = λ n h. rw (get_or-replicate {A = ℕ} 16 n 0 0 h) (omega arith) }

module _ (l : List ℕ) (i v : ℕ) (b : Bytes l) (low : v < 2 ^ 8) where
  bytes_set : Bytes (set l i v)
  bytes_set = record { long = length-set l i v ∙ b.long; keeps = λ n h. at n h (cases (eqb n i)) }
    where
      at : (n : ℕ) → n < 16 → (eqb n i ≡ true) ⊎ (eqb n i ≡ false) → get_or (set l i v) n 0 < 2 ^ 8
      at n h (inl t) =
          let e = eqb-true n i t in
          let long = b.long in
          rw (e, get_or-set_same l i v 0 (omega arith)) low
      at n h (inr f) = rw (get_or-set_other l i n v 0 (eqb-false n i f)) (b.keeps n h)

record ArraysFit (registers : List ℕ) (p : Pointers) : Type 0 where
  long : length registers ≡ 16
  writes : Bytes p.writes
  reads : Bytes p.reads

arrays_fit : (plan : Plan) (m : Model) (q : Request) (time : ℕ) (store : List ℕ) → ArraysFit m.registers m.pointers
    → ArraysFit (after plan m q time store).registers (after plan m q time store).pointers
arrays_fit plan m q time store f =
    let none : ArraysFit zeros16 zero_pointers = record { long = refl; writes = bytes_zero; reads = bytes_zero } in
    let moved : (l : List ℕ) (n : ℕ) → Bytes l → Bytes (set l n (moved_on (get_or l n 0))) = λ l n b. bytes_set l n (moved_on (get_or l n 0)) b (omega arith) in
    act_keeps (λ r p c b. ArraysFit r p) plan m time store q (record {
      now = f;
      lv1 = f;
      fast = λ body. choice (ArraysFit m.registers) (eqb body 0b0010) (λ _. record { long = f.long; writes = bytes_zero; reads = bytes_zero }) (λ _. f);
      write = λ address value _ _ _. record { long = length-set m.registers address _ ∙ f.long; writes = f.writes; reads = f.reads };
      push = λ feen word. record {
        long = f.long;
        writes = write_keeps (λ g. Bytes g.writes) (λ n word g. moved g.writes n) 16 0 feen word _ f.writes;
        reads = f.reads;
      };
      pop = λ n. record { long = f.long; writes = f.writes; reads = moved m.pointers.reads n f.reads };
      reset = λ _. none;
      run = λ _ _. f;
    })

-- All that an image needs of a state, but for its plan.
record Kept (s : System) : Type 0 where
  recogniser : Narrow s.recogniser
  model : ModelFits s.machine.model
  arrays : ArraysFit s.machine.model.registers s.machine.model.pointers
  earlier : s.machine.earlier.kind < 2 ^ 8

turn_kept : (s : System) (bit : ℕ) → Kept s → Kept (turn_of s bit).state
unfolding turn_of
turn_kept s bit k =
    let m = s.machine in
    let q = (transition_of s bit).event.request in
    record {
      recogniser = step_narrow s.recogniser bit (cnt_at m) (k.model.each_register m.plan.cnt) k.recogniser;
      model = model_fits m.plan m.model q m.next m.store k.model;
      arrays = arrays_fit m.plan m.model q m.next m.store k.arrays;
      earlier = byte_kind_next m.earlier (cnt_at m) m.next (effect_at m q m.next).acted.cycle (stamp s bit) k.earlier;
    }

bits_kept : (bits : List ℕ) (s : System) → Kept s → Kept (state_after turn_of s bits)
bits_kept [] s k = k
bits_kept (bit ∷ bits) s k = bits_kept bits (turn_of s bit).state (turn_kept s bit k)

same_plan : (bits : List ℕ) (s : System) → (state_after turn_of s bits).machine.plan ≡ s.machine.plan
unfolding turn_of
same_plan [] s = refl
same_plan (bit ∷ bits) s = same_plan bits (turn_of s bit).state

-- The widths of a state taken apart and put together.
register_low : (registers : List ℕ) → ArrayKeeps (field.bits 16) registers → (n : ℕ) → get_or registers n 0 < 2 ^ 16
register_low registers k n =
    ⊎_elim (λ t. k.keeps n (ltb-true n 16 t))
    (λ t. let h = ltb-false n 16 t in let l = k.long in rw (get_or-eq_default registers 0 {n = n} (omega arith)) (omega arith))
    (cases (ltb n 16))

narrow_of : (d : Decoder) → Widths d → Narrow d.recogniser
narrow_of d w =
    let r = w.numbers.1.1.1.1.1 in
    record { shift = r.0; command = r.1.0; address = r.1.1.0; count = r.1.1.1.0; held = r.1.1.1.1.0; group = r.1.1.1.1.1.0 }

pub model_widths : (d : Decoder) → Widths d → ModelFits d.model
model_widths d w = record { l1id = w.numbers.1.1.1.1.1.1.1.1.1.1.1.0; each_register = register_low d.model.registers w.arrays.0 }

kept_of_lem : (d : Decoder) (store tray : List ℕ) → Widths d → Kept (system_of d store tray)
kept_of_lem d store tray w = record {
  recogniser = narrow_of d w;
  model = model_widths d w;
  arrays = record { long = w.arrays.0.long; writes = w.arrays.1.0; reads = w.arrays.1.1.0 };
  earlier = w.numbers.1.1.1.1.1.1.1.1.1.1.1.1.1.1.0;
}

widths_of : (d : Decoder) (plan : Plan) → Widths d → (s : System) → Kept s → s.machine.plan ≡ d.plan → Widths (decoder_of s)
widths_of d plan w s k e =
    let p = w.numbers in
    let r = k.recogniser in
    record {
      numbers = (
        rw e p.0,
        (
          rw e p.1.0,
          (
            rw e p.1.1.0,
            (
              rw e p.1.1.1.0,
              (
                tt,
                (r.shift, (r.command, (r.address, (r.count, (r.held, (r.group, (k.model.l1id, (tt, (tt, (k.earlier, tt)))))))))),
              ),
            ),
          ),
        ),
      );
      arrays = (
        record { long = k.arrays.long; keeps = λ n _. k.model.each_register n },
        (k.arrays.writes, (k.arrays.reads, tt)),
      );
    }

pub widths_kept : (d : Decoder) (c : Call) → Widths d → Widths (take_of d c).taken.decoder
widths_kept d c w =
    let taken = bits_taken d c in
    let s : System = state_after turn_of (lent d c) taken in
    subst (λ (u : System). Widths (decoder_of u)) (sym (call_kept d c).system)
    (widths_of d d.plan w s (bits_kept taken (lent d c) (kept_of_lem d c.store c.tray w)) (same_plan taken (lent d c)))

-- Field 5 of a front-end frame: eight cycles gather a group, whose eighth stores the vote.
-- Assumes nothing.
use mathlib.Core.Bool.{Bool, true, false, ◌||◌}
use mathlib.Core.List.{List, [], ◌∷◌, ◌++◌, append_assoc}
use mathlib.Core.Logic.{⊎_elim}
use mathlib.Core.Path.{◌≡◌, ◌∙◌, sym, ap, subst}
use Prim.Native.Nat.{ℕ, zero, suc, ◌+◌, ◌*◌, ◌/◌, ◌%◌, ◌<◌}
use native.Mathlib.Omega.{arith}
use lib.Dec.{T, eqb}
use lib.ListN.{length, length-append}
use borrow.Author.Tests.{eq-eqb, ne_eqb, eqb-true, eqb-false}
use Rattle.bits.proofs.Truth.{cases, or_none, or_join}
use Rattle.bits.proofs.BitRanges.{binary, binary_ahead, binary_behind}
use Rattle.groups.specs.Vote.{vote_of, unsteady, votes_of, some_unsteady}
use Rattle.groups.specs.Received.{held_with, bits_in, left_by}
use Rattle.groups.proofs.LeftBits.{bits_left, left_last}
use Rattle.groups.proofs.GroupLists.{votes_first, unsteady_first}
use Rattle.recogniser.specs.declared.FrameBit.TheVariants.{None, At}
use Rattle.recogniser.specs.declared.Recogniser.{Recogniser}
use Rattle.slow_fields.specs.Slow.{is_frame, length_of}
use Rattle.recogniser.specs.Groups.{is_eighth, group_of, unsteady_of, frame_bit_of}
use Rattle.recogniser.proofs.GroupCycles.{no_bit, gathered, as_before, voted, finished, joined}
use Rattle.frames.specs.Tray.{tray_of, filled_of}
use Rattle.calls.specs.Turn.{System, Machine, cnt_at}
use Rattle.calls.proofs.FrameTurns.{FrameTaken, system, at, moved, last_taken, cycle_taken}

-- A front-end frame behind so many whole groups and some bits of the next.
module _ (command address place : ℕ) (part : List ℕ) (u : Bool) where
  abbrev count : ℕ
  count = 8 * place + length part

  abbrev inside : Recogniser
  inside = at command address count (left_by 0 part) u

  abbrev pub Taken : ℕ → List ℕ → Machine → Type 0
  Taken n bits m = FrameTaken command place (votes_of n (part ++ bits)) (u || some_unsteady n (part ++ bits)) bits (system inside m)

  module _ (frame : is_frame command ≡ true) (groups : eqb command 6 ≡ false) (bit : ℕ) where
    -- one bit more of an unfinished group
    group_on : length part < 7 → (n : ℕ) (bits : List ℕ) (m : Machine) → count + 1 < length_of command (cnt_at m)
        → FrameTaken command place (votes_of n ((part ++ (bit ∷ [])) ++ bits)) (u || some_unsteady n ((part ++ (bit ∷ [])) ++ bits)) bits
        (system (at command address (8 * place + length (part ++ (bit ∷ []))) (left_by 0 (part ++ (bit ∷ []))) u) (moved None m))
        → Taken n (bit ∷ bits) m
    unfolding tray_of
    group_on early n bits m more f =
        let not_yet : is_eighth count ≡ false = ne_eqb (count % 8) 7 (omega arith) in
        let none = no_bit inside bit groups not_yet in
        let held : group_of inside bit ≡ left_by 0 (part ++ (bit ∷ [])) = gathered inside bit groups not_yet ∙ sym (left_last part 0 bit) in
        let same = as_before inside bit groups not_yet in
        let one_on : count + 1 ≡ 8 * place + length (part ++ (bit ∷ [])) = rw length-append (omega arith) in
        cycle_taken command address frame count (left_by 0 part) u m bit bits more place place
        (votes_of n (part ++ (bit ∷ bits))) (votes_of n (part ++ (bit ∷ bits))) (u || some_unsteady n (part ++ (bit ∷ bits))) (rw none)
        (rw (none, held, same, one_on) (rw append_assoc at f))

    -- the eighth
    module _ (seven : length part ≡ 7) (b : T (binary (part ++ (bit ∷ [])))) where
      eighth : is_eighth count ≡ true
      eighth = eq-eqb (count % 8) 7 (omega arith)

      its_bits : bits_in (held_with (left_by 0 part) bit) ≡ part ++ (bit ∷ [])
      its_bits = rw (← left_last part 0 bit) (bits_left (part ++ (bit ∷ [])) (length-append part (bit ∷ []) ∙ omega arith) b)

      stored : frame_bit_of inside bit ≡ At place (vote_of (part ++ (bit ∷ [])))
      stored =
          let e : count / 8 ≡ place = omega arith in
          voted inside bit groups eighth ∙ (λ i. At (e i) (vote_of (its_bits i)))

      flagged : unsteady_of inside bit ≡ (u || unsteady (part ++ (bit ∷ [])))
      flagged = joined inside bit groups eighth ∙ ap (λ g. u || unsteady g) its_bits

      -- the last of all
      pub group_last : (m : Machine) → count + 1 ≡ length_of command (cnt_at m) → Taken 1 (bit ∷ []) m
      unfolding tray_of
      group_last m end =
          let flag : unsteady_of inside bit ≡ (u || some_unsteady 1 (part ++ (bit ∷ []))) =
          flagged ∙ ap (λ v. u || v) (sym (unsteady_first part bit [] seven 0 ∙ or_none _)) in
          subst (λ v. FrameTaken command place (votes_of 1 (part ++ (bit ∷ []))) v (bit ∷ []) (system inside m)) flag
          (last_taken command address frame count (left_by 0 part) u m bit end place (votes_of 1 (part ++ (bit ∷ [])))
          (ap (tray_of m.tray) stored ∙ ap (filled_of place m.tray) (sym (votes_first part bit [] seven 0))))

      -- one ahead of other groups
      abbrev behind : Machine → System
      behind m = system (at command address (8 * (place + 1) + 0) 0 (u || unsteady (part ++ (bit ∷ [])))) (moved (At place (vote_of (part ++ (bit ∷ [])))) m)

      pub group_done : (n : ℕ) (bits : List ℕ) (m : Machine) → count + 1 < length_of command (cnt_at m)
          → FrameTaken command (place + 1) (votes_of n bits) ((u || unsteady (part ++ (bit ∷ []))) || some_unsteady n bits) bits
          (behind m)
          → Taken (suc n) (bit ∷ bits) m
      unfolding tray_of
      group_done n bits m more f =
          let flag : ((u || unsteady (part ++ (bit ∷ []))) || some_unsteady n bits) ≡ (u || some_unsteady (suc n) (part ++ (bit ∷ bits))) =
          or_join u _ _ ∙ ap (λ v. u || v) (sym (unsteady_first part bit bits seven n)) in
          let one_on : count + 1 ≡ 8 * (place + 1) + 0 = omega arith in
          let none = finished inside bit groups eighth in
          cycle_taken command address frame count (left_by 0 part) u m bit bits more place (place + 1)
          (votes_of (suc n) (part ++ (bit ∷ bits))) (votes_of n bits) (u || some_unsteady (suc n) (part ++ (bit ∷ bits)))
          (ap (λ f. filled_of (place + 1) (tray_of m.tray f) (votes_of n bits)) stored
          ∙ ap (filled_of place m.tray) (sym (votes_first part bit bits seven n)))
          (rw (stored, none, flagged, one_on) (subst (λ v. FrameTaken command (place + 1) (votes_of n bits) v bits (behind m)) flag f))

-- All cycles that are left, so many groups with the bits that came before them.
pub front_end_taken : (command address : ℕ) → is_frame command ≡ true → eqb command 6 ≡ false
    → (bits : List ℕ) (bit : ℕ) (part : List ℕ) (place n : ℕ) (u : Bool) (m : Machine)
    → length part < 8 → length part + length (bit ∷ bits) ≡ 8 * n → T (binary (part ++ (bit ∷ bits)))
    → 8 * place + length part + length (bit ∷ bits) ≡ length_of command (cnt_at m)
    → Taken command address place part u n (bit ∷ bits) m
front_end_taken command address frame groups [] bit part place n u m low whole b end =
    let one : n ≡ 1 = omega arith in
    rw one (group_last command address place part u frame groups bit (omega arith) b m (omega arith))
front_end_taken command address frame groups (next ∷ bits) bit part place zero u m low whole b end = absurd (omega arith)
front_end_taken command address frame groups (next ∷ bits) bit part place (suc n) u m low whole b end =
    let joined : T (binary ((part ++ (bit ∷ [])) ++ (next ∷ bits))) = rw append_assoc b in
    ⊎_elim
    (λ t.
    let seven = eqb-true (length part) 7 t in
    group_done command address place part u frame groups bit seven (binary_ahead (part ++ (bit ∷ [])) _ joined) n (next ∷ bits) m (omega arith)
    (front_end_taken command address frame groups bits next [] (place + 1) n (u || unsteady (part ++ (bit ∷ [])))
    (moved (At place (vote_of (part ++ (bit ∷ [])))) m) (omega arith) (omega arith) (binary_behind (part ++ (bit ∷ [])) _ joined) (omega arith)))
    (λ f.
    let early : length part ≡ 7 → ⊥ = eqb-false (length part) 7 f in
    let longer = length-append part (bit ∷ []) in
    group_on command address place part u frame groups bit (omega arith) (suc n) (next ∷ bits) m (omega arith)
    (front_end_taken command address frame groups bits next (part ++ (bit ∷ [])) place (suc n) u (moved None m)
    (omega arith) (omega arith) joined (omega arith)))
    (cases (eqb (length part) 7))

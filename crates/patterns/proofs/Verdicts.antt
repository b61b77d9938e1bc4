-- What each verdict says of its stream; and a clean stream is accepted.
-- Assumes nothing.
use mathlib.Core.Path.{◌≡◌, ◌∙◌, refl, sym, ap, subst}
use mathlib.Core.Bool.{Bool, true, false, ◌&&◌}
use mathlib.Core.List.{List, [], ◌∷◌, ◌++◌, append_assoc, append-nil}
use Prim.Native.Nat.{ℕ, zero, suc, ◌+◌, ◌≤◌}
use native.Mathlib.Nat.{zero-add}
use native.Mathlib.Omega.{arith}
use lib.Dec.{T, leb}
use lib.ListN.{length, get_or, take, drop, length-append, length-drop}
use borrow.Author.Tests.{le-leb, leb-true, leb-false}
use Rattle.bits.proofs.Truth.{holds_true, true_holds, and_both, and_left, and_right}
use Rattle.timing.specs.Table.{zeros_asked}
use Rattle.clean_streams.specs.Commands.{Command, code_of, command_kind, width_of}
use Rattle.clean_streams.specs.CleanStreams.{Item, zeros, stream_bits, spaced, timed}
use Rattle.clean_streams.proofs.FiniteFacts.{each_at}
use Rattle.patterns.specs.Verdict.{Verdict}
use Rattle.patterns.specs.Verdict.{Accepted}
use Rattle.patterns.specs.Patterns.{commands, Pattern, unknown, cut, whole, pattern_of}
use Rattle.patterns.specs.Verdicts.{verdict_from, verdict_of}
use Rattle.patterns.specs.Accepted.{Clean, last_kind, AtFault, TooFew, Told}
use Rattle.patterns.proofs.PatternLaws.{held_whole, whole_holds}
use Rattle.patterns.proofs.VerdictSteps.{zeros_passed, command_judged, unknown_judged, cut_judged}
use Rattle.patterns.proofs.CleanEnds.{item, zero_behind, command_behind, last_behind, timed_behind}

take_front : (xs ys : List ℕ) → take (length xs) (xs ++ ys) ≡ xs
take_front [] ys = refl
take_front (x ∷ xs) ys = ap (λ (l : List ℕ). x ∷ l) (take_front xs ys)

drop_front : (xs ys : List ℕ) → drop (length xs) (xs ++ ys) ≡ ys
drop_front [] ys = refl
drop_front (x ∷ xs) ys = drop_front xs ys

bit_behind : (xs ys : List ℕ) → get_or (xs ++ ys) (length xs) 0 ≡ get_or ys 0 0
bit_behind [] ys = refl
bit_behind (x ∷ xs) ys = bit_behind xs ys

-- A clean stream so far, and the verdict on the bits behind it.
abbrev verdict : List Item → ℕ → List ℕ → Verdict
verdict items t bits = verdict_from (last_kind items) t (length (stream_bits items t)) 0 bits

module _ (items : List Item) (t : ℕ) (timing : T (timed items)) where
  abbrev ahead : List ℕ
  ahead = stream_bits items t

  at_fault : (bits : List ℕ) (Fault : List Item → ℕ → Pattern → Type 0) → (get_or bits 0 0 ≡ 0 → ⊥) → Fault items t (pattern_of bits)
      → AtFault (ahead ++ bits) (length ahead) Fault
  at_fault bits Fault n f = record {
    ahead = record { items = items; trailing = t; same = take_front ahead bits; timing = timing };
    begins = λ e. n (sym (bit_behind ahead bits) ∙ e);
    fault = subst (λ (l : List ℕ). Fault items t (pattern_of l)) (sym (drop_front ahead bits)) f;
  }

-- What a verdict says from a clean stream so far on, of at most n bits behind it.
abbrev ToldFrom : ℕ → Type 0
ToldFrom n =
    (bits : List ℕ) → length bits ≤ n → (items : List Item) (t : ℕ) → T (timed items) → Told (stream_bits items t ++ bits) (verdict items t bits)

carried : {xs ys : List ℕ} {u v : Verdict} → xs ≡ ys → u ≡ v → Told xs u → Told ys v
carried {xs} {v = v} p q told = subst (λ (l : List ℕ). Told l v) p (subst (λ (w : Verdict). Told xs w) q told)

-- A zero.
after_zero : (n : ℕ) → ToldFrom n → (bits : List ℕ) → length bits ≤ n → (items : List Item) (t : ℕ) → T (timed items)
    → Told (stream_bits items t ++ (0 ∷ bits)) (verdict_from (last_kind items) (suc t) (suc (length (stream_bits items t))) 0 bits)
after_zero n again bits h items t timing =
    let e = zero_behind items t in
    let ahead = stream_bits items t in
    let long : length (stream_bits items (suc t)) ≡ suc (length ahead) = ap length e ∙ length-append ahead (0 ∷ []) ∙ omega arith in
    carried (ap (λ (l : List ℕ). l ++ bits) e ∙ append_assoc ahead (0 ∷ []) bits) (λ i. verdict_from (last_kind items) (suc t) (long i) 0 bits)
    (again bits h items (suc t) timing)

-- A whole command, in time or not.
module _ (n : ℕ) (again : ToldFrom n) (items : List Item) (t : ℕ) (timing : T (timed items)) (c : Command) (rest : List ℕ) where
  in_time_lem : length rest ≤ n → T (leb (zeros_asked (last_kind items) (command_kind c)) t)
      → Told (stream_bits items t ++ (code_of c ++ rest)) (verdict_from (command_kind c) 0 (length (stream_bits items t) + width_of c) 0 rest)
  in_time_lem h asked =
      let e = command_behind items t c in
      let ahead = stream_bits items t in
      let longer = items ++ (item t c ∷ []) in
      let long : length (stream_bits longer 0) ≡ length ahead + width_of c = ap length e ∙ length-append ahead (code_of c) in
      carried (ap (λ (l : List ℕ). l ++ rest) e ∙ append_assoc ahead (code_of c) rest) (λ i. verdict_from (last_behind 0 items t c i) 0 (long i) 0 rest)
      (again rest h longer 0 (timed_behind items t c timing asked))

  by_time : length rest ≤ n → (b : Bool) → leb (zeros_asked (last_kind items) (command_kind c)) t ≡ b → pattern_of (code_of c ++ rest) ≡ whole c
      → (get_or (code_of c ++ rest) 0 0 ≡ 0 → ⊥)
      → Told (stream_bits items t ++ (code_of c ++ rest)) (verdict items t (code_of c ++ rest))
  by_time h true e w s = rw (command_judged (last_kind items) t (length (stream_bits items t)) rest c, e) (in_time_lem h (true_holds _ e))
  by_time h false e w s =
      rw (command_judged (last_kind items) t (length (stream_bits items t)) rest c, e)
      (at_fault items t timing (code_of c ++ rest) TooFew s (record { command = c; complete = w; few = leb-false _ _ e }))

some_width : (c : Command) → leb 1 (width_of c) ≡ true
some_width = each_at (λ c. leb 1 (width_of c)) (λ c. true) refl

-- The bits from a 1 on, by the pattern that they are.
module _ (n : ℕ) (again : ToldFrom n) (m : ℕ) (bits : List ℕ) (h : length bits ≤ n) (items : List Item) (t : ℕ) (timing : T (timed items)) where
  some : suc m ≡ 0 → ⊥
  some e = absurd (omega arith)

  by_pattern : (p : Pattern) → pattern_of (suc m ∷ bits) ≡ p → Told (stream_bits items t ++ (suc m ∷ bits)) (verdict items t (suc m ∷ bits))
  by_pattern unknown e = rw (unknown_judged (last_kind items) t _ bits m e) (at_fault items t timing (suc m ∷ bits) (λ is k p. p ≡ unknown) some e)
  by_pattern cut e = rw (cut_judged (last_kind items) t _ bits m e) (at_fault items t timing (suc m ∷ bits) (λ is k p. p ≡ cut) some e)
  by_pattern (whole c) e =
      let w : List ℕ = suc m ∷ bits in
      let rest = drop (width_of c) w in
      let f : w ≡ code_of c ++ rest = held_whole (code_of c) w (whole_holds w commands c e) in
      let wide = leb-true 1 (width_of c) (some_width c) in
      let short : length rest ≤ n = omega (arith, length-drop (width_of c) w) in
      subst (λ (l : List ℕ). Told (stream_bits items t ++ l) (verdict items t l)) (sym f)
      (by_time n again items t timing c rest short (leb (zeros_asked (last_kind items) (command_kind c)) t) refl (sym (ap pattern_of f) ∙ e)
      (λ z. some (ap (λ (l : List ℕ). get_or l 0 0) f ∙ z)))

none_left : (items : List Item) (t : ℕ) → T (timed items) → Told (stream_bits items t ++ []) (verdict items t [])
unfolding verdict_from
none_left items t timing = record { items = items; trailing = t; same = append-nil (stream_bits items t); timing = timing }

one_more : (n : ℕ) → ToldFrom n → ToldFrom (suc n)
unfolding verdict_from
one_more n again [] h items t timing = none_left items t timing
one_more n again (zero ∷ bits) h items t timing = after_zero n again bits (omega arith) items t timing
one_more n again (suc m ∷ bits) h items t timing = by_pattern n again m bits (omega arith) items t timing (pattern_of (suc m ∷ bits)) refl

told_at_once : ToldFrom 0
told_at_once [] h items t timing = none_left items t timing
told_at_once (bit ∷ bits) h items t timing = absurd (omega arith)

told_from : (n : ℕ) → ToldFrom n
told_from zero = told_at_once
told_from (suc n) = one_more n (told_from n)

pub told : (bits : List ℕ) → Told bits (verdict_of bits)
told bits = told_from (length bits) bits (omega arith) [] 0 tt

-- A clean stream is accepted. In time behind the command before and the zeros since: the first item by both, the others as ever.
abbrev in_time : ℕ → ℕ → List Item → Bool
in_time last ahead [] = true
in_time last ahead (i ∷ is) = leb (zeros_asked last (command_kind i.command)) (ahead + i.ahead) && spaced i.command is

spaced_in_time : (c : Command) (is : List Item) → T (spaced c is) → T (in_time (command_kind c) 0 is)
spaced_in_time c [] s = tt
spaced_in_time c (i ∷ is) s = rw (zero-add i.ahead) s

accepted_from : (is : List Item) (trailing last ahead place : ℕ) → T (in_time last ahead is)
    → verdict_from last ahead place 0 (stream_bits is trailing) ≡ Accepted
unfolding verdict_from
accepted_from [] trailing last ahead place s =
    ap (verdict_from last ahead place 0) (sym (append-nil (zeros trailing))) ∙ zeros_passed trailing last ahead place []
accepted_from (i ∷ is) trailing last ahead place s =
    let rest = stream_bits is trailing in
    let code = code_of i.command in
    let first = leb (zeros_asked last (command_kind i.command)) (ahead + i.ahead) in
    ap (verdict_from last ahead place 0) (append_assoc (zeros i.ahead) code rest)
    ∙ zeros_passed i.ahead last ahead place (code ++ rest)
    ∙ command_judged last (ahead + i.ahead) (place + i.ahead) rest i.command
    ∙ rw (holds_true first (and_left first _ s))
    (accepted_from is trailing (command_kind i.command) 0 (place + i.ahead + width_of i.command)
    (spaced_in_time i.command is (and_right first _ s)))

-- Nothing is asked ahead of the first.
first_free : (c : Command) → zeros_asked 0 (command_kind c) ≡ 0
first_free = each_at (λ c. zeros_asked 0 (command_kind c)) (λ c. 0) refl

timed_in_time : (is : List Item) → T (timed is) → T (in_time 0 0 is)
timed_in_time [] s = tt
timed_in_time (i ∷ is) s =
    let asked = zeros_asked 0 (command_kind i.command) in
    let none = first_free i.command in
    and_both (leb asked (0 + i.ahead)) _ (true_holds _ (le-leb asked (0 + i.ahead) (omega (arith, none)))) s

pub clean_accepted : (bits : List ℕ) → Clean bits → verdict_of bits ≡ Accepted
clean_accepted bits c = ap verdict_of c.same ∙ accepted_from c.items c.trailing 0 0 0 (timed_in_time c.items c.timing)

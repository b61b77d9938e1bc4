-- One inverted bit in an item, or in the zeros at the end: the recogniser shows what the damage table says.
-- Assumes nothing.
use mathlib.Core.Path.{◌≡◌, ◌∙◌, refl, sym, ap}
use mathlib.Core.Bool.{Bool, true, false, cond, ◌&&◌, and-false}
use mathlib.Core.List.{List, [], ◌∷◌, ◌++◌, append_assoc}
use Prim.Native.Nat.{ℕ, zero, suc, ◌-◌, ◌<◌, ◌≤◌}
use native.Mathlib.Nat.{le_of_suc-le-suc, not-suc-le-zero, sub-zero, suc-sub-suc}
use native.Mathlib.Omega.{arith}
use lib.Dec.{ltb, ltb→lt, nltb→le}
use lib.ListN.{length, length-replicate}
use borrow.Author.Tests.{lt-leb}
use Rattle.bits.proofs.Truth.{clash, cond_case}
use Rattle.bits.proofs.Below.{below, below_at}
use Rattle.recogniser.specs.declared.Request.{Request}
use Rattle.recogniser.specs.declared.Request.TheVariants.{Nothing}
use Rattle.recogniser.specs.declared.Recogniser.{Recogniser}
use Rattle.recogniser.specs.declared.Phase.TheVariants.{Hunt}
use Rattle.recogniser.specs.Parts.{idle, start_of}
use Rattle.recogniser.specs.Step.{step_of}
use Rattle.clean_streams.specs.Commands.{Command, lv1, bcr, ecr, cal, sync, code_of, width_of, is_fast_command}
use Rattle.clean_streams.specs.CleanStreams.{Item, zeros, item_bits, item_size}
use Rattle.damage.specs.Inverted.{inverted}
use Rattle.damage.specs.Table.{own_bit, zero_ahead, damage, itself, hits_fast, affected, replacement_of}
use Rattle.damage.specs.Traces.{requests_of, recogniser_after, quiet, spread, item_trace}
use Rattle.clean_streams.proofs.FiniteFacts.{each_at}
use Rattle.damaged_runs.proofs.TracesJoined.{Shows, chain}
use Rattle.damage.proofs.Replacements.{zero_damage, replacement_cases}
use Rattle.damaged_runs.proofs.Recovery.{shown_by, should_show, Resumes, Settles, empty_resumes, idling, trailing, late}

-- where the inverted bit lies
pub inverted_left : (k : ℕ) (xs ys : List ℕ) → k < length xs → inverted k (xs ++ ys) ≡ inverted k xs ++ ys
inverted_left k [] ys h = absurd (not-suc-le-zero h)
inverted_left zero (x ∷ xs) ys h = refl
inverted_left (suc k) (x ∷ xs) ys h = ap (λ (l : List ℕ). x ∷ l) (inverted_left k xs ys (le_of_suc-le-suc h))

pub inverted_right : (k : ℕ) (xs ys : List ℕ) → length xs ≤ k → inverted k (xs ++ ys) ≡ xs ++ inverted (k - length xs) ys
inverted_right k [] ys h = rw sub-zero
inverted_right zero (x ∷ xs) ys h = absurd (not-suc-le-zero h)
inverted_right (suc k) (x ∷ xs) ys h = rw suc-sub-suc (ap (λ (l : List ℕ). x ∷ l) (inverted_right k xs ys (le_of_suc-le-suc h)))

inverted_zeros : (k n : ℕ) → k < n → inverted k (zeros n) ≡ zeros k ++ (1 ∷ zeros (n - suc k))
inverted_zeros k zero h = absurd (not-suc-le-zero h)
inverted_zeros zero (suc n) h = rw (suc-sub-suc, sub-zero n)
inverted_zeros (suc k) (suc n) h = rw suc-sub-suc (ap (λ (l : List ℕ). 0 ∷ l) (inverted_zeros k n (le_of_suc-le-suc h)))

quiet_split : (k n : ℕ) → k < n → quiet n ≡ quiet k ++ (Nothing ∷ quiet (n - suc k))
quiet_split k zero h = absurd (not-suc-le-zero h)
quiet_split zero (suc n) h = rw (suc-sub-suc, sub-zero n)
quiet_split (suc k) (suc n) h = rw suc-sub-suc (ap (λ (l : List Request). Nothing ∷ l) (quiet_split k n (le_of_suc-le-suc h)))

-- The bits show the requests, and leave a recogniser that resumes after the command c, with an empty window if c is not affected.
pub record Safely (c : Command) (struck : Bool) (r : Recogniser) (bits : List ℕ) (requests : List Request) : Type 0 where
  pub end : Recogniser
  pub shows : Shows r bits requests end
  pub resumes : Resumes c end
  pub empties : struck ≡ false → end ≡ idle

-- a bit of a command: computed for each command and bit
abbrev hit : Command → ℕ → List ℕ
hit c k = inverted k (code_of c)

abbrev own_trace : Command → ℕ → List Request
own_trace c k = spread (width_of c) (damage c (own_bit (suc k)))

hit_shows : (c : Command) → below (width_of c) (λ k. requests_of idle (hit c k)) ≡ below (width_of c) (own_trace c)
unfolding step_of requests_of recogniser_after
hit_shows = each_at (λ c. below (width_of c) (λ k. requests_of idle (hit c k))) (λ c. below (width_of c) (own_trace c)) refl

hit_resumes : (c : Command) → below (width_of c) (λ k. shown_by c (recogniser_after idle (hit c k))) ≡ below (width_of c) (λ k. should_show c)
unfolding step_of requests_of recogniser_after
hit_resumes lv1 = refl
hit_resumes bcr = refl
hit_resumes ecr = refl
hit_resumes cal = refl
hit_resumes sync = refl

pub in_command : (a : ℕ) (c : Command) (k : ℕ) → k < width_of c → Safely c true idle (zeros a ++ hit c k) (quiet a ++ own_trace c k)
in_command a c k h = record {
  end = recogniser_after idle (hit c k);
  shows = chain (idling a) (record { seen = below_at (width_of c) (λ k. requests_of idle (hit c k)) (own_trace c) (hit_shows c) k h; left = refl });
  resumes = below_at (width_of c) (λ k. shown_by c (recogniser_after idle (hit c k))) (λ k. should_show c) (hit_resumes c) k h;
  empties = λ e. clash refl e;
}

-- a zero ahead of a command: the window after a one, and then z zeros more, computed for fewer than five
abbrev one : Recogniser
one = start_of Hunt 1 0 0

abbrev near : Command → ℕ → List ℕ
near c z = zeros z ++ code_of c

abbrev near_trace : Command → ℕ → List Request
near_trace c z = quiet z ++ spread (width_of c) (zero_damage c (suc z))

near_shows : (c : Command) → below 5 (λ z. requests_of one (near c z)) ≡ below 5 (near_trace c)
unfolding step_of requests_of recogniser_after
near_shows = each_at (λ c. below 5 (λ z. requests_of one (near c z))) (λ c. below 5 (near_trace c)) refl

near_resumes : (c : Command) → below 5 (λ z. shown_by c (recogniser_after one (near c z))) ≡ below 5 (λ z. should_show c)
unfolding step_of requests_of recogniser_after
near_resumes = each_at (λ c. below 5 (λ z. shown_by c (recogniser_after one (near c z)))) (λ c. below 5 (λ z. should_show c)) refl

near_empties : (c : Command) → below 5 (λ z. cond (hits_fast c (suc z)) idle (recogniser_after one (near c z))) ≡ below 5 (λ z. idle)
unfolding step_of recogniser_after
near_empties = each_at (λ c. below 5 (λ z. cond (hits_fast c (suc z)) idle (recogniser_after one (near c z)))) (λ c. below 5 (λ z. idle)) refl

-- zeros after that one: nothing is seen, and five of them empty the window
one_settles : Settles one
unfolding step_of requests_of recogniser_after
one_settles = record { few = refl; emptied = refl }

-- three zeros or more ahead hit no Fast
far : (c : Command) (z : ℕ) → 2 ≤ z → zero_damage c (suc z) ≡ itself c
far c z h =
    let damaged = damage c (zero_ahead (suc z)) in
    ap (λ b. cond (is_fast_command c && b) damaged (itself c)) (lt-leb (suc z) 2 (omega arith))
    ∙ ap (λ b. cond b damaged (itself c)) (and-false (is_fast_command c))

pub behind_one : (c : Command) (z : ℕ) → Safely c (hits_fast c (suc z)) one (near c z) (near_trace c z)
behind_one c z =
    cond_case (λ (b : Bool). Safely c (hits_fast c (suc z)) one (near c z) (near_trace c z)) (ltb z 5) {x = ltb z 5} {y = ltb z 5}
    (λ h.
    let g = ltb→lt z 5 h in
    record {
      end = recogniser_after one (near c z);
      shows = record { seen = below_at 5 (λ z. requests_of one (near c z)) (near_trace c) (near_shows c) z g; left = refl };
      resumes = below_at 5 (λ z. shown_by c (recogniser_after one (near c z))) (λ z. should_show c) (near_resumes c) z g;
      empties = λ e.
          ap (λ b. cond b idle (recogniser_after one (near c z))) (sym e)
          ∙ below_at 5 (λ z. cond (hits_fast c (suc z)) idle (recogniser_after one (near c z))) (λ z. idle) (near_empties c) z g;
    })
    (λ h.
    let g = nltb→le z 5 h in
    record {
      end = idle;
      shows = rw (far c z (omega arith)) (late one one_settles c z g);
      resumes = empty_resumes c;
      empties = λ _. refl;
    })

one_bit : Shows idle (1 ∷ []) (Nothing ∷ []) one
unfolding step_of requests_of recogniser_after
one_bit = record { seen = refl; left = refl }

-- an inverted bit among the zeros of an item, and anywhere in it
in_zeros : (a k : ℕ) (c : Command) → k < a
    → Safely c (hits_fast c (a - k)) idle (inverted k (zeros a) ++ code_of c) (quiet a ++ spread (width_of c) (zero_damage c (a - k)))
in_zeros a k c h =
    let e : a - k ≡ suc (a - suc k) = omega arith in
    let s = behind_one c (a - suc k) in
    rw (inverted_zeros k a, quiet_split k a, e, append_assoc (zeros k), append_assoc (quiet k))
    (record { end = s.end; shows = chain (idling k) (chain one_bit s.shows); resumes = s.resumes; empties = s.empties })

pub in_item : (i : Item) (k : ℕ) → k < item_size i → Safely i.command (affected i k) idle (inverted k (item_bits i)) (item_trace i (replacement_of i k))
in_item i k h =
    replacement_cases (λ struck x. Safely i.command struck idle (inverted k (item_bits i)) (item_trace i x)) i k
    (λ l.
    let g : k < length (zeros i.ahead) = rw length-replicate l in
    rw (inverted_left k (zeros i.ahead) (code_of i.command) g) (in_zeros i.ahead k i.command l))
    (λ g.
    let z : length (zeros i.ahead) ≡ i.ahead = length-replicate i.ahead 0 in
    rw (inverted_right k (zeros i.ahead) (code_of i.command) (omega arith), z) (in_command i.ahead i.command (k - i.ahead) (omega arith)))

-- an inverted bit in the zeros at the end
pub in_tail : (k t : ℕ) → requests_of idle (inverted k (zeros t)) ≡ quiet t
unfolding step_of requests_of
in_tail k zero = refl
in_tail zero (suc t) = ap (λ (l : List Request). Nothing ∷ l) (trailing one one_settles t)
in_tail (suc k) (suc t) = ap (λ (l : List Request). Nothing ∷ l) (in_tail k t)

-- Clean streams show their commands; and what it takes of a recogniser to find its way back to a clean stream.
-- Assumes nothing.
use mathlib.Core.Path.{◌≡◌, ◌∙◌, refl, sym, ap}
use mathlib.Core.Bool.{Bool}
use mathlib.Core.List.{List, [], ◌∷◌, ◌++◌, append_assoc}
use Prim.Native.Nat.{ℕ, zero, suc, ◌+◌, ◌-◌, ◌<◌, ◌≤◌}
use native.Mathlib.Omega.{arith}
use lib.Dec.{ltb, ltb→lt, nltb→le}
use lib.ListN.{replicate, replicate-append-replicate}
use Rattle.bits.proofs.Truth.{cond_case}
use Rattle.bits.proofs.Below.{below, below_at}
use Rattle.recogniser.specs.declared.Request.{Request}
use Rattle.recogniser.specs.declared.Request.TheVariants.{Nothing}
use Rattle.recogniser.specs.declared.Recogniser.{Recogniser}
use Rattle.recogniser.specs.Parts.{idle}
use Rattle.recogniser.specs.Step.{step_of}
use Rattle.clean_streams.specs.Commands.{Command, code_of}
use Rattle.clean_streams.specs.CleanStreams.{Item, zeros, zeros_between, item_bits, stream_bits}
use Rattle.damage.specs.Table.{itself}
use Rattle.damage.specs.Traces.{requests_of, recogniser_after, quiet, command_trace, item_trace, clean_trace}
use Rattle.clean_streams.proofs.FiniteFacts.{each, each_at}
use Rattle.damaged_runs.proofs.TracesJoined.{Shows, chain, onward}

-- What a recogniser shows over a few zeros, over five, and over each command behind a few more zeros than the timing table asks after c.
pub record Shown : Type 0 where
  pub few : List (List Request)
  pub emptied : Recogniser
  pub next : List (List (List Request))
  pub left : List (List Recogniser)

abbrev behind : Command → Command → ℕ → List ℕ
behind c d y = zeros (zeros_between c d + y) ++ code_of d

abbrev behind_trace : Command → Command → ℕ → List Request
behind_trace c d y = quiet (zeros_between c d + y) ++ command_trace d

abbrev pub shown_by : Command → Recogniser → Shown
shown_by c r = record {
  few = below 6 (λ z. requests_of r (zeros z));
  emptied = recogniser_after r (zeros 5);
  next = each (λ d. below 5 (λ y. requests_of r (behind c d y)));
  left = each (λ d. below 5 (λ y. recogniser_after r (behind c d y)));
}

-- What it should show: nothing over zeros, an empty window after five, each command as itself, and an empty window after it.
abbrev pub should_show : Command → Shown
should_show c = record {
  few = below 6 quiet;
  emptied = idle;
  next = each (λ d. below 5 (behind_trace c d));
  left = each (λ d. below 5 (λ y. idle));
}

-- After the command c, damaged or not, the recogniser finds its way back to a clean stream.
abbrev pub Resumes : Command → Recogniser → Type 0
Resumes c r = shown_by c r ≡ should_show c

pub empty_resumes : (c : Command) → Resumes c idle
unfolding step_of requests_of recogniser_after
empty_resumes = each_at (λ c. shown_by c idle) should_show refl

-- zeros, from an empty window and from one that resumes
pub idling : (n : ℕ) → Shows idle (zeros n) (quiet n) idle
unfolding step_of requests_of recogniser_after
idling zero = record { seen = refl; left = refl }
idling (suc n) = record { seen = ap (λ (l : List Request). Nothing ∷ l) (idling n).seen; left = (idling n).left }

five_more : {A : Type 0} (a : A) (z : ℕ) → 5 ≤ z → replicate z a ≡ replicate 5 a ++ replicate (z - 5) a
five_more a z h = let e : 5 + (z - 5) ≡ z = omega arith in sym (replicate-append-replicate 5 (z - 5) a ∙ ap (λ n. replicate n a) e)

-- From r zeros show nothing, and five of them empty the window.
pub record Settles (r : Recogniser) : Type 0 where
  pub few : below 6 (λ z. requests_of r (zeros z)) ≡ below 6 quiet
  pub emptied : recogniser_after r (zeros 5) ≡ idle

pub resumes_settles : (c : Command) (r : Recogniser) → Resumes c r → Settles r
resumes_settles c r resumes = record { few = ap (λ (s : Shown). s.few) resumes; emptied = ap (λ (s : Shown). s.emptied) resumes }

clean_command : (d : Command) → Shows idle (code_of d) (command_trace d) idle
unfolding step_of requests_of recogniser_after
clean_command d = record {
  seen = each_at (λ d. requests_of idle (code_of d)) command_trace refl d;
  left = each_at (λ d. recogniser_after idle (code_of d)) (λ d. idle) refl d;
}

-- a command behind any number of zeros, from an empty window
pub clean_item : (i : Item) → Shows idle (item_bits i) (item_trace i (itself i.command)) idle
clean_item i = chain (idling i.ahead) (clean_command i.command)

module _ (r : Recogniser) (settles : Settles r) where
  few_zeros : (z : ℕ) → z < 6 → requests_of r (zeros z) ≡ quiet z
  few_zeros = below_at 6 (λ z. requests_of r (zeros z)) quiet settles.few

  five : Shows r (zeros 5) (quiet 5) idle
  five = record { seen = few_zeros 5 (omega arith); left = settles.emptied }

  -- any number of zeros
  pub trailing : (z : ℕ) → requests_of r (zeros z) ≡ quiet z
  trailing z =
      cond_case (λ (b : Bool). requests_of r (zeros z) ≡ quiet z) (ltb z 5) {x = ltb z 5} {y = ltb z 5}
      (λ h. few_zeros z (let g = ltb→lt z 5 h in omega arith))
      (λ h.
      let g = nltb→le z 5 h in
      rw (five_more {A = ℕ} 0 z g, five_more Nothing z g) (chain five (idling (z - 5))).seen)

  -- a command behind five zeros or more
  pub late : (d : Command) (z : ℕ) → 5 ≤ z → Shows r (zeros z ++ code_of d) (quiet z ++ command_trace d) idle
  late d z h =
      let bits = append_assoc (zeros 5) (zeros (z - 5)) (code_of d) in
      let requests = append_assoc (quiet 5) (quiet (z - 5)) (command_trace d) in
      rw (five_more {A = ℕ} 0 z h, five_more Nothing z h, bits, requests)
      (chain five (chain (idling (z - 5)) (clean_command d)))

-- the next command, from a recogniser that resumes
module _ (c : Command) (r : Recogniser) (resumes : Resumes c r) (d : Command) where
  soon : (y : ℕ) → y < 5 → Shows r (behind c d y) (behind_trace c d y) idle
  soon y h = record {
    seen = below_at 5 (λ y. requests_of r (behind c d y)) (behind_trace c d)
        (each_at (λ d. below 5 (λ y. requests_of r (behind c d y))) (λ d. below 5 (behind_trace c d)) (ap (λ (s : Shown). s.next) resumes) d) y h;
    left = below_at 5 (λ y. recogniser_after r (behind c d y)) (λ y. idle)
        (each_at (λ d. below 5 (λ y. recogniser_after r (behind c d y))) (λ d. below 5 (λ y. idle)) (ap (λ (s : Shown). s.left) resumes) d) y h;
  }

  pub resumed : (z : ℕ) → zeros_between c d ≤ z → Shows r (zeros z ++ code_of d) (quiet z ++ command_trace d) idle
  resumed z asked =
      cond_case (λ (b : Bool). Shows r (zeros z ++ code_of d) (quiet z ++ command_trace d) idle) (ltb (z - zeros_between c d) 5) {x = ltb z 5} {y = ltb z 5}
      (λ h.
      let e : zeros_between c d + (z - zeros_between c d) ≡ z = omega arith in
      rw e at (soon (z - zeros_between c d) (ltb→lt (z - zeros_between c d) 5 h)))
      (λ h. late r (resumes_settles c r resumes) d z (let g = nltb→le (z - zeros_between c d) 5 h in omega arith))

-- from an empty window a clean stream shows its commands and nothing else
pub clean_run : (is : List Item) (t : ℕ) → requests_of idle (stream_bits is t) ≡ clean_trace is t
clean_run [] t = (idling t).seen
clean_run (i ∷ is) t = onward (clean_item i) (stream_bits is t) (clean_run is t)

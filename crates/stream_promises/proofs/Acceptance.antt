-- The fifth promise, proved.
-- Assumes nothing.
use mathlib.Core.Path.{◌≡◌, ◌∙◌, refl, sym, ap, ap₂, subst}
use mathlib.Core.Bool.{Bool, true, false, cond, not, ◌||◌}
use mathlib.Core.List.{List}
use Prim.Native.Nat.{ℕ, ◌+◌, ◌*◌, ◌<◌}
use native.Mathlib.Omega.{arith}
use lib.Dec.{leb}
use lib.ListN.{length}
use Rattle.limits.specs.Limits.{input_limit}
use Rattle.bits.specs.Bits.{bits_of}
use Rattle.bits.specs.Range.{range_fits}
use Rattle.patterns.specs.Verdict.{Verdict}
use Rattle.patterns.specs.Verdict.{Accepted, WrongRange}
use Rattle.patterns.specs.Verdicts.{verdict_number, verdict_of, accept_of}
use Rattle.patterns.specs.Accepted.{Told}
use Rattle.patterns.proofs.Verdicts.{told, clean_accepted}
use Rattle.patterns.proofs.Examples.{verdict_examples}
use Rattle.judgements.proofs.Examples.{judgement_examples}
use Rattle.judging.proofs.Standing.{as_read}
use Rattle.damage.specs.Inverted.{inverted}
use Rattle.damage.specs.Hits.{inverted_at}
use Rattle.promises.specs.Damage.{Stream}
use Rattle.stream_promises.specs.Acceptance.{range_row, RangeFirst, Exactly, AcceptedDamage, FifthPromise}
use Rattle.promises.proofs.Refusals.{not_leb, not_and}
use Rattle.promises.proofs.ManyHits.{fourth_promise}
use Rattle.promises.proofs.Damage.{third_demand}

-- The range's test is the row's, turned round.
turned : (b : Bool) (x y : Verdict) → cond b x y ≡ cond (not b) y x
turned true x y = refl
turned false x y = refl

pub range_row_lem : (input : List ℕ) (first count : ℕ) → not (range_fits (length input) first count) ≡ (range_row input first count).applies
range_row_lem input first count =
    not_and (leb (length input) input_limit) (leb (first + count) (8 * length input))
    ∙ ap₂ (λ (a b : Bool). a || b) (not_leb (length input) input_limit) (not_leb (first + count) (8 * length input))

range_first : (input : List ℕ) (first count : ℕ) → RangeFirst input first count
unfolding accept_of
range_first input first count =
    turned (range_fits (length input) first count) (verdict_of (bits_of input first count)) WrongRange
    ∙ ap (λ (b : Bool). cond b WrongRange (verdict_of (bits_of input first count))) (range_row_lem input first count)

exactly : (bits : List ℕ) → Exactly bits
exactly bits = record { clean = λ e. subst (Told bits) e (told bits); accepted = clean_accepted bits }

-- A range that is accepted fits, and its bits are.
bits_accepted : (input : List ℕ) (first count : ℕ) (b : Bool) → range_fits (length input) first count ≡ b → accept_of input first count ≡ Accepted
    → verdict_of (bits_of input first count) ≡ Accepted
unfolding accept_of
bits_accepted input first count true f e = rw f at e
bits_accepted input first count false f e =
    let g : WrongRange ≡ Accepted = rw f at e in
    let z : ◌≡◌ {A = ℕ} 5 0 = ap verdict_number g in
    absurd (omega arith)

damage : AcceptedDamage
damage d input first count r e =
    let bits = bits_of input first count in
    let c = (exactly bits).clean (bits_accepted input first count (range_fits (length input) first count) refl e) in
    let s : Stream d c.items =
    record { sound = r.sound; running = r.running; hunting = r.hunting; window = r.window; timing = c.timing } in
    let same = c.same in
    record {
      clean = c;
      one = λ clean damaged k inside took hit.
          third_demand d clean damaged c.items c.trailing k (record {
            stream = s;
            inside = subst (λ (l : List ℕ). k < length l) same inside;
            took_clean = took ∙ same;
            took_damaged = hit ∙ ap (inverted k) same;
          });
      many = λ clean damaged hits apart took hit.
          fourth_promise d clean damaged hits c.items c.trailing (record {
            stream = s;
            apart = apart;
            took_clean = took ∙ same;
            took_damaged = hit ∙ ap (inverted_at hits d.next) same;
          });
    }

pub fifth_promise : FifthPromise
fifth_promise = record {
  range_first = range_first;
  exactly = exactly;
  told = told;
  in_numbers = verdict_examples;
  program = judgement_examples;
  as_read = as_read;
  damage = damage;
}

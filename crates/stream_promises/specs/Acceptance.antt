-- The fifth promise: which streams are accepted, what each refusal says, and that the damage statement holds of an accepted one (document 02, F-8).
-- Assumes nothing.
use Rattle.std.specs.Prelude.{◌≡◌, true, cond, ◌||◌, List, ℕ, ◌+◌, ◌*◌, ◌<◌, T, ltb, length}
use Rattle.limits.specs.Limits.{input_limit}
use Rattle.bits.specs.Bits.{bits_of}
use Rattle.recogniser.specs.declared.Phase.TheVariants.{Hunt}
use Rattle.decoder.specs.declared.Decoder.{Decoder}
use Rattle.decoder.specs.Sound.{sound_of}
use Rattle.calls.specs.Take.{Call}
use Rattle.calls.specs.Calls.{all_bits, all_words}
use Rattle.patterns.specs.Verdict.{Accepted, WrongRange}
use Rattle.patterns.specs.Verdicts.{verdict_of, accept_of}
use Rattle.patterns.specs.Accepted.{Clean, Told}
use Rattle.patterns.specs.VerdictTable.{VerdictExamples}
use Rattle.judging.specs.Blocks.{AsRead}
use Rattle.judgements.specs.Examples.{JudgementExamples}
use Rattle.damage.specs.Inverted.{inverted}
use Rattle.damage.specs.Hits.{HitCycles, inverted_at, Apart}
use Rattle.promises.specs.Refusals.{Row, row}
use Rattle.promises.specs.Damage.{Wrote}
use Rattle.promises.specs.ManyHits.{made, HitsWrote}

-- "number 5 first": its row is that of a taking call.
abbrev pub range_row : List ℕ → ℕ → ℕ → Row
range_row input first count = row 5 (ltb input_limit (length input) || ltb (8 * length input) (first + count))

abbrev pub RangeFirst : List ℕ → ℕ → ℕ → Type 0
RangeFirst input first count = accept_of input first count ≡ cond (range_row input first count).applies WrongRange (verdict_of (bits_of input first count))

-- "Accepted are exactly the streams of zeros and whole, exact LV1, BCR, ECR, CAL and SYNC commands that keep the timing table."
pub record Exactly (bits : List ℕ) : Type 0 where
  pub clean : verdict_of bits ≡ Accepted → Clean bits
  pub accepted : Clean bits → verdict_of bits ≡ Accepted

-- Any sound state in RunMode, hunting, window 00000: the damage statement's, but for its stream.
pub record Ready (d : Decoder) : Type 0 where
  pub sound : T (sound_of d)
  pub running : d.model.running ≡ true
  pub hunting : d.recogniser.phase ≡ Hunt
  pub window : d.recogniser.shift ≡ 0

-- "Whoever wrote an accepted stream, the damage statement holds for it": it is a clean stream, with its items, and two lists of calls that take its bits, clean and with one
-- inverted, or with any number of them far enough apart.
pub record DamageHolds (d : Decoder) (bits : List ℕ) : Type 0 where
  pub clean : Clean bits
  pub one : (undamaged damaged : List Call) (k : ℕ) → k < length bits → all_bits d undamaged ≡ bits → all_bits d damaged ≡ inverted k bits
      → Wrote d (all_words d undamaged) (all_words d damaged) clean.items k
  pub many : (undamaged damaged : List Call) (hits : HitCycles) → Apart hits d.next clean.items clean.trailing
      → all_bits d undamaged ≡ bits → all_bits d damaged ≡ inverted_at hits d.next bits
      → HitsWrote d (made d undamaged) (made d damaged) hits clean.items

abbrev pub AcceptedDamage : Type 0
AcceptedDamage =
    (d : Decoder) (input : List ℕ) (first count : ℕ) → Ready d → accept_of input first count ≡ Accepted → DamageHolds d (bits_of input first count)

pub record FifthPromise : Type 0 where
  pub range_first : (input : List ℕ) (first count : ℕ) → RangeFirst input first count
  pub exactly : (bits : List ℕ) → Exactly bits
  pub told : (bits : List ℕ) → Told bits (verdict_of bits)
  pub in_numbers : VerdictExamples
  pub program : JudgementExamples
  pub as_read : AsRead
  pub damage : AcceptedDamage

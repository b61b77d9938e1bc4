-- Bits written one after another: nothing yet, some and then others, one bit, one byte.
-- Assumes nothing.
use mathlib.Core.List.{List, [], ◌∷◌, ◌++◌, append_assoc}
use mathlib.Core.Path.{◌≡◌, ◌∙◌, refl, sym, ap}
use Prim.Native.Nat.{ℕ, ◌+◌, ◌*◌, ◌/◌, ◌%◌, ◌^◌, ◌<◌, ◌≤◌}
use native.Mathlib.Nat.{pow-suc, mod-lt}
use native.Mathlib.Numerals.{add-one}
use native.Mathlib.Omega.{arith}
use lib.ListN.{set, length-append, length-set}
use lib.Pow.{pow_pos, pow_mono}
use lib.Seq.{sets}
use borrow.Author.Tests.{lt-ltb, le-ltb}
use Rattle.orders.specs.Streams.{number_bits, packed_from}
use Rattle.stream_writer.specs.declared.Writer.{Writer}
use Rattle.stream_writer.specs.Writer.{writer, Fits, Written, Wrote}
use Rattle.stream_writer.proofs.Packing.{byte_packed}

-- What is written in the end, by a place, the bits held and those to come.
abbrev ends : List ℕ → Writer → List ℕ → List ℕ
ends out w bits = sets out w.at (packed_from w.held w.filled bits)

pub nothing_yet : {w : Writer} {out bits : List ℕ} → Fits w → Written w out bits w out bits
nothing_yet f = record { fits = f; long = refl; place = refl; same = λ more. refl }

-- The same bits in other words.
pub in_other_words : {w v : Writer} {out bits same now rest : List ℕ} → bits ≡ same → Written w out bits v now rest → Written w out same v now rest
in_other_words {w} {v} {out} {now = now} {rest = rest} e a = rw e at a

pub left_as : {w v : Writer} {out bits now rest same : List ℕ} → rest ≡ same → Written w out bits v now rest → Written w out bits v now same
left_as e a = rw e at a

-- Some of what is left.
pub onward : {w v u : Writer} {out bits now later : List ℕ} (xs rest : List ℕ) → Written w out bits v now (xs ++ rest) → Wrote v now xs u later
    → Written w out bits u later rest
onward {v = v} {now = now} xs rest a b = record {
  fits = b.fits;
  long = b.long ∙ a.long;
  place = omega (arith, a.place, b.place, length-append xs rest);
  same = λ more. b.same (rest ++ more) ∙ ap (ends now v) (sym (append_assoc xs rest more)) ∙ a.same more;
}

-- Two parts, one after the other.
pub both_parts : {w v u : Writer} {out now later : List ℕ} (xs ys : List ℕ) → Wrote w out xs v now → Wrote v now ys u later → Wrote w out (xs ++ ys) u later
both_parts {w} {v} {u} {out} {now} {later} xs ys a b = record {
  fits = b.fits;
  long = b.long ∙ a.long;
  place = omega (arith, a.place, b.place, length-append xs ys);
  same = λ more. b.same more ∙ a.same (ys ++ more) ∙ ap (ends out w) (sym (append_assoc xs ys more));
}

-- What a byte's part can hold.
narrow : (held filled : ℕ) → filled < 8 → held < 2 ^ filled → held < 128
narrow held filled part low = omega (arith, at_most)
  where
    at_most : 2 ^ filled ≤ 128
    at_most = pow_mono {i = filled} {j = 7} (omega arith)

module _ (w : Writer) (out : List ℕ) (f : Fits w) where
  pub held_narrow : w.held < 128
  held_narrow = narrow w.held w.filled f.part f.held

  module _ (bit : ℕ) (low : bit < 2) where
    -- one bit more of an unfinished byte
    pub held_bit : w.filled < 7 → Wrote w out (bit ∷ []) (writer w.at (w.held * 2 + bit) (w.filled + 1)) out
    held_bit h = record {
      fits = record { part = omega arith; held = rw (add-one w.filled, pow-suc) (omega (arith, f.held)) };
      long = refl;
      place = omega arith;
      same = λ more. rw (lt-ltb w.filled 7 h);
    }

    -- its last
    pub full_bit : 7 ≤ w.filled → Wrote w out (bit ∷ []) (writer (w.at + 1) 0 0) (set out w.at (w.held * 2 + bit))
    full_bit h = record {
      fits = record { part = omega arith; held = omega arith };
      long = length-set out w.at _;
      place = omega (arith, f.part);
      same = λ more. rw (le-ltb w.filled 7 h, add-one w.at);
    }

  -- eight bits
  pub one_byte : (byte : ℕ) → byte < 256
      → Wrote w out (number_bits 8 byte) (writer (w.at + 1) ((w.held * 256 + byte) % 2 ^ w.filled) w.filled)
      (set out w.at ((w.held * 256 + byte) / 2 ^ w.filled))
  one_byte byte low = record {
    fits = record { part = f.part; held = mod-lt _ (pow_pos w.filled) };
    long = length-set out w.at _;
    place = omega arith;
    same = λ more. rw (byte_packed w.held byte w.filled low f.part more, add-one w.at);
  }

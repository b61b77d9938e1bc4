-- What a run of `compose` stands for: the characters read so far, whatever more follow.
-- Assumes nothing.
use mathlib.Core.Bool.{Bool, true, false, cond}
use mathlib.Core.List.{List, [], ◌∷◌, ◌++◌, append_assoc, append-nil}
use mathlib.Core.Path.{◌≡◌, ◌∙◌, refl, sym, ap, subst}
use Prim.Native.Nat.{ℕ, ◌+◌, ◌/◌, ◌≤◌}
use native.Mathlib.Nat.{zero-add}
use native.Mathlib.Omega.{arith}
use lib.ListN.{length, take, drop}
use lib.Seq.{sets, sets-eq, take_at}
use Rattle.orders.specs.Streams.{stream_of, packed}
use Rattle.orders.specs.Composing.{room_fits}
use Rattle.orders.proofs.Packing.{packed_length}
use Rattle.line_meanings.specs.Lines.{lines_of}
use Rattle.gathered_lines.specs.Gathering.{line_texts}
use Rattle.gathered_lines.proofs.Gathering.{texts}
use Rattle.order_refusals.specs.Refusals.{no_refusal, refusal_in, orders_in}
use Rattle.compositions.specs.declared.Composition.{Composition}
use Rattle.compositions.specs.Compositions.{output_limit, composed, too_long, start, end_with, unless_refused, with_lines, still_lines, composition_of, WellFormed}
use Rattle.compositions.proofs.Rooms.{has_room}
use Rattle.order_texts.specs.Composed.{written_of, composed_of}
use Rattle.order_texts.specs.Running.{still_composed, ComposesBlock, EndsInput}
use Rattle.order_texts.specs.Blocks.{Run, BlocksComposed, joined, AsRead}

pub record Stands (characters : List ℕ) (s : Composition) (buffer out : List ℕ) : Type 0 where
  pub well_formed : WellFormed s out
  pub same : (more : List ℕ) → composed_of (characters ++ more) ≡ still_composed s buffer out more

-- At the start the output holds what the bits to come will be.
bytes_first : (out bytes : List ℕ) → length bytes ≤ length out → take (length bytes) (sets out 0 bytes) ≡ bytes
bytes_first out bytes h = rw (sets-eq bytes out 0 (omega arith)) (take_at bytes (drop (0 + length bytes) out) (length bytes) refl)

module _ (out : List ℕ) (long : length out ≡ output_limit) where
  first_bytes : (bits : List ℕ) → length bits ≤ 8388608 → take ((length bits + 7) / 8) (sets out 0 (packed bits)) ≡ packed bits
  first_bytes bits h =
      ap (λ (n : ℕ). take n (sets out 0 (packed bits))) (sym (packed_length bits))
      ∙ bytes_first out (packed bits) (omega (arith, packed_length bits))

  at_start : (bits : List ℕ) → end_with start out bits ≡ written_of bits
  unfolding written_of
  at_start bits = rw (zero-add (length bits)) (by (room_fits (length bits) output_limit) refl)
    where
      by : (b : Bool) → room_fits (length bits) output_limit ≡ b
          → cond b (composed no_refusal (take ((length bits + 7) / 8) (sets out 0 (packed bits)))) too_long ≡ cond b (composed no_refusal (packed bits)) too_long
      by true e = ap (composed no_refusal) (first_bytes bits (has_room (length bits) e))
      by false e = refl

  pub start_stands : (buffer : List ℕ) → Stands [] start buffer out
  unfolding composed_of still_lines with_lines
  start_stands buffer = record {
    well_formed = record { fits = record { part = omega arith; held = omega arith }; placed = λ _. refl; short = omega arith; whole = long };
    same = λ more.
        rw (texts more)
        (sym (ap (unless_refused (refusal_in _ 0 (line_texts (lines_of more)))) (at_start (stream_of (orders_in (line_texts (lines_of more)))))));
  }

pub block_stands : {characters block : List ℕ} {s r : Composition} {buffer out later now : List ℕ} → Stands characters s buffer out
    → ComposesBlock s buffer out block r later now → Stands (characters ++ block) r later now
block_stands {characters} {block} t j = record {
  well_formed = j.well_formed;
  same = λ more. ap composed_of (append_assoc characters block more) ∙ t.same (block ++ more) ∙ sym (j.same more);
}

-- At the end, what is composed is what is composed of them all.
pub end_stands : {characters : List ℕ} {s r : Composition} {buffer out now : List ℕ} → Stands characters s buffer out → EndsInput s buffer out r now
    → composed_of characters ≡ composition_of r now
end_stands {characters} t e = sym (ap composed_of (append-nil characters)) ∙ t.same [] ∙ sym e.same

-- Blocks in a row.
abbrev RunStands : List ℕ → Run → Type 0
RunStands characters r = Stands characters r.state r.buffer r.out

blocks_stand : (blocks : List (List ℕ)) {characters : List ℕ} {s r : Run} → RunStands characters s → BlocksComposed s blocks r
    → RunStands (characters ++ joined blocks) r
blocks_stand [] {characters} {r = r} t e = subst (λ (l : List ℕ). RunStands l r) (sym (append-nil characters)) (subst (RunStands characters) e t)
blocks_stand (block ∷ blocks) {characters} {r = r} t j =
    subst (λ (l : List ℕ). RunStands l r) (append_assoc characters block (joined blocks)) (blocks_stand blocks (block_stands t j.1) j.2)

pub as_read : AsRead
as_read blocks s r e o out begun long j ends f =
    let t : RunStands [] s = subst (λ (c : Composition). Stands [] c s.buffer s.out) (sym begun) (start_stands s.out long s.buffer) in
    f.same ∙ sym (end_stands (blocks_stand blocks t j) ends)

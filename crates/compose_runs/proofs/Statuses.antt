-- The status of a run by the refusal of what is composed, and a run under way.
-- Assumes nothing.
use mathlib.Core.Path.{◌≡◌, ◌∙◌, refl, sym, ap, subst}
use mathlib.Core.Logic.{inl, inr, ⊎_elim}
use mathlib.Core.List.{List, [], ◌++◌}
use Prim.Native.Nat.{ℕ}
use Rattle.std.specs.Prelude.{Result, Ok, OnOk}
use lib.ListN.{length, replicate, length-replicate}
use Rattle.output.specs.Block.{block_length}
use Rattle.text_words.specs.Words.{line_limit}
use Rattle.text_frames.specs.Frames.{frame_limit}
use Rattle.compositions.specs.declared.Composition.{Composition}
use Rattle.order_refusals.specs.declared.Refusal.{Refusal}
use Rattle.compositions.specs.Compositions.{Composed, output_limit, start, outcome_number, Finishes}
use Rattle.compositions.proofs.Outcomes.{number_told}
use Rattle.order_texts.specs.Composed.{composed_of}
use Rattle.line_ends.specs.LineEnds.{Lent}
use Rattle.order_texts.specs.Running.{ComposesBlock, EndsInput}
use Rattle.order_texts.proofs.Standing.{Stands, start_stands, block_stands, end_stands}
use Rattle.statuses.specs.Status.{status_of, Finished}
use Rattle.compose_runs.specs.Runs.{ComposedRun}

-- Of a run that stands for the characters it read.
pub composed_run : {characters buffer out now later : List ℕ} {s r : Composition} {o : Result ℕ Refusal} {status : ℕ} → Stands characters s buffer out
    → EndsInput s buffer out r now → Finishes r now o later → Finished (outcome_number o) status → ComposedRun status
composed_run {characters} {later = later} {o = o} t e f g =
    ⊎_elim inl (λ told. inr (record {
      characters = characters;
      told = told ∙ ap status_of (number_told o later) ∙ ap (λ (c : Composed). status_of c.refusal.number) (f.same ∙ sym (end_stands t e));
    })) g

pub zeros_long : (n : ℕ) → length {A = ℕ} (replicate n 0) ≡ n
zeros_long n = length-replicate n 0

-- What a result tells where it is well.
pub where_ok : {A E P : Type 0} (r : Result A E) {a : A} → r ≡ Ok a → OnOk r P → P
where_ok r e h = rw e at h

-- From the start on.
module _ {s : Composition} (line out : List ℕ) (e : s ≡ start) (long : length out ≡ output_limit) where
  first : Stands [] s line out
  first = subst (λ (s : Composition). Stands [] s line out) (sym e) (start_stands out long line)

  pub begins : (frame : List ℕ) → length line ≡ line_limit → length frame ≡ frame_limit → ComposesBlock s line out [] s line out × Lent line frame
  begins frame l f = (record { well_formed = first.well_formed; same = λ more. refl }, record { line_long = l; frame_long = f })

  pub composed_from_start : {characters line' out' now later : List ℕ} {r t : Composition} {o : Result ℕ Refusal} {status : ℕ}
      → ComposesBlock s line out characters r line' out' → EndsInput r line' out' t now → Finishes t now o later
      → Finished (outcome_number o) status → ComposedRun status
  composed_from_start j ends = composed_run (block_stands first j) ends

-- A run under way, for the characters that its reads brought, with its buffers.
pub record UnderWay (input line frame out : List ℕ) (s : Composition) : Type 0 where
  pub characters : List ℕ
  pub stands : Stands characters s line out
  pub lent : Lent line frame
  pub block : length input ≡ block_length

pub started : (input line frame out : List ℕ) → length input ≡ block_length → length line ≡ line_limit → length frame ≡ frame_limit → length out ≡ output_limit
    → (s : Composition) → s ≡ start → UnderWay input line frame out s
started input line frame out b l f o s e = record {
  characters = [];
  stands = first line out e o;
  lent = record { line_long = l; frame_long = f };
  block = b;
}

pub after_block : {input line frame out input' line' frame' out' block : List ℕ} {s r : Composition} → UnderWay input line frame out s
    → length input' ≡ block_length → length line' ≡ line_limit → length frame' ≡ frame_limit → ComposesBlock s line out block r line' out'
    → UnderWay input' line' frame' out' r
after_block {block = block} u b l f j = record {
  characters = u.characters ++ block;
  stands = block_stands u.stands j;
  lent = record { line_long = l; frame_long = f };
  block = b;
}

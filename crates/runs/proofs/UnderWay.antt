-- A run under way, from turn to turn, for the characters that its reads brought; and at its end.
-- Assumes nothing.
use mathlib.Core.Bool.{Bool, true, false}
use mathlib.Core.List.{List, [], ◌++◌}
use mathlib.Core.Logic.{⊎_elim, inl, inr}
use mathlib.Core.Path.{◌≡◌, refl, sym, ap, ◌∙◌}
use Prim.Native.Nat.{ℕ, ◌≤◌}
use native.Mathlib.Omega.{arith}
use lib.Dec.{eqb}
use lib.ListN.{length, take}
use borrow.Author.Tests.{eqb-true}
use Rattle.bits.proofs.Truth.{choice}
use Rattle.limits.specs.Limits.{store_length, tray_length}
use Rattle.output.specs.Block.{block_length}
use Rattle.program.specs.declared.PrintOptions.{PrintOptions}
use Rattle.program.specs.declared.RunState.{RunState}
use Rattle.program.specs.Listing.{Refusal, Outcome}
use Rattle.program.specs.RunState.{start, snapshot, end_of, AfterSteps}
use Rattle.program.specs.Program.{program_of}
use Rattle.program.specs.Turns.{characters_read, emptied, text_put}
use Rattle.program.proofs.Standing.{over_stands}
use Rattle.program.proofs.Turns.{BetweenReads, begins, refilled, block_written}
use Rattle.statuses.specs.Status.{status_of, Finished}
use Rattle.run_parts.specs.Refills.{Brought}
use Rattle.runs.specs.Runs.{RanOn, Ran}

pub record UnderWay (frames : Bool) (store₀ tray₀ : List ℕ) (s : RunState) (store tray input output : List ℕ) : Type 0 where
  pub characters : List ℕ
  pub written : List ℕ
  pub kept : BetweenReads frames store₀ tray₀ characters written s store tray input output

pub started : (frames : Bool) (store tray input output : List ℕ) → length store ≡ store_length → length tray ≡ tray_length
    → length input ≡ block_length → length output ≡ block_length → (s : RunState) → s ≡ start → UnderWay frames store tray s store tray input output
started frames store tray input output long wide i o s e =
    record { characters = []; written = []; kept = begins frames store tray input output long wide i o s e }

module _ {frames : Bool} {store₀ tray₀ : List ℕ} {s : RunState} {store tray input output : List ℕ}
    (u : UnderWay frames store₀ tray₀ s store tray input output) where
  pub after_read : s.over ≡ false → {r : RunState} {input' : List ℕ} → Brought s input r input' → UnderWay frames store₀ tray₀ r store tray input' output
  after_read under_way b = record {
    characters = u.characters ++ characters_read s b.got b.brought;
    written = u.written;
    kept = refilled u.kept under_way b.refill;
  }

  module _ {r : RunState} {store' tray' output' : List ℕ}
      (a : AfterSteps frames (take s.length input) (snapshot s store tray output) (snapshot r store' tray' output'))
      (o : length output' ≡ block_length) where
    pub after_write : UnderWay frames store₀ tray₀ (emptied r) store' tray' input output'
    after_write = record {
      characters = u.characters;
      written = u.written ++ text_put (snapshot r store' tray' output');
      kept = block_written u.kept a o;
    }

-- ---- at its end

end_number : (s : RunState) → (end_of s).number ≡ s.number
end_number s = choice (λ (r : Refusal). r.number ≡ s.number) (eqb s.number 0) (λ e. sym (eqb-true s.number 0 e)) (λ _. refl)

module _ (prints : PrintOptions) {store₀ tray₀ : List ℕ} {s : RunState} {store tray input output : List ℕ}
    (u : UnderWay prints.frames store₀ tray₀ s store tray input output) (over : s.over ≡ true) where
  pub ran : (status : ℕ) → Finished s.number status → Ran prints status store₀ tray₀ store tray
  unfolding program_of
  ran status f =
      let o = over_stands u.kept.stands over in
      ⊎_elim inl
      (λ e. inr (record {
        characters = u.characters;
        store_left = ap (λ (q : Outcome). q.system.machine.store) (sym o);
        tray_left = ap (λ (q : Outcome). q.system.machine.tray) (sym o);
        status_told = e ∙ ap status_of (sym (ap (λ (q : Outcome). q.refusal.number) o ∙ end_number s));
      })) f

-- `put_state` meets its contract: its six pieces one after the other.
-- Assumes nothing.
use mathlib.Core.List.{List, ◌++◌}
use mathlib.Core.Path.{◌≡◌, refl, ◌∙◌}
use Prim.Native.Nat.{ℕ, ◌+◌, ◌≤◌}
use lib.ListN.{length}
use Rattle.limits.specs.Limits.{store_length}
use Rattle.decoder.specs.declared.Decoder.{Decoder}
use Rattle.output.specs.Block.{block_length, block, put_all, put_if_fits}
use Rattle.output.proofs.Pieces.{PartlyPut, next_fits, next_put, next_put_if_fits}
use Rattle.state_lines.specs.StateLines.{l1id_line, base_line, runmode_line}
use Rattle.state_listing.specs.State.{all_registers_text, all_pointers_text, all_fifo_words_text, state_text}
use Rattle.state_listing.proofs.State.{state_none_put}
use Rattle.state_listing.proofs.put_state.Goals as goal

-- Of the state's text, what is left to put at a place.
module _ (d : Decoder) (store out : List ℕ) (words : length store ≡ store_length) (long : length out ≡ block_length) where
  abbrev Rest : List ℕ → ℕ → List ℕ → Type 0
  Rest out' place rest = PartlyPut out 0 (state_text d store) out' place rest

  registers_fit : 0 + length (all_registers_text d.plan d.model) ≤ length out
  unfolding state_text
  registers_fit = next_fits (state_none_put d store words out long) (all_registers_text d.plan d.model) _ refl

  module _ (out1 out2 out3 out4 : List ℕ) (place1 place2 place3 place4 : ℕ)
      (registers_put : block out1 place1 ≡ put_all out 0 (all_registers_text d.plan d.model))
      (l1id_put : block out2 place2 ≡ put_if_fits out1 place1 (l1id_line d.model.counters.l1id))
      (base_put : block out3 place3 ≡ put_if_fits out2 place2 (base_line d.model.counters.base))
      (runmode_put : block out4 place4 ≡ put_if_fits out3 place3 (runmode_line d.model.running)) where
    pointers_left : Rest out4 place4 (all_pointers_text d.model.pointers ++ all_fifo_words_text store)
    unfolding state_text
    pointers_left =
        let all = state_none_put d store words out long in
        let first = next_put all (all_registers_text d.plan d.model) _ refl out1 place1 registers_put in
        let second = next_put_if_fits first (l1id_line d.model.counters.l1id) _ refl out2 place2 l1id_put in
        let third = next_put_if_fits second (base_line d.model.counters.base) _ refl out3 place3 base_put in
        next_put_if_fits third (runmode_line d.model.running) _ refl out4 place4 runmode_put

    pointers_fit : place4 + length (all_pointers_text d.model.pointers) ≤ length out4
    pointers_fit = next_fits pointers_left (all_pointers_text d.model.pointers) (all_fifo_words_text store) refl

    words_left : (out5 : List ℕ) (place5 : ℕ) → block out5 place5 ≡ put_all out4 place4 (all_pointers_text d.model.pointers)
        → Rest out5 place5 (all_fifo_words_text store)
    words_left out5 place5 e = next_put pointers_left (all_pointers_text d.model.pointers) (all_fifo_words_text store) refl out5 place5 e

pub put_registers-registers-requires : goal.put_registers-registers-requires
put_registers-registers-requires c = registers_fit c.args.decoder c.args.store.now c.args.out.now c.requires.0 c.requires.1

pub put_pointers-pointers-requires : goal.put_pointers-pointers-requires
put_pointers-pointers-requires c =
    pointers_fit c.args.decoder c.args.store.now c.args.out.now c.requires.0 c.requires.1 _ _ _ _ _ _ _ _ c.put_registers-registers.ensures
    c.l1id_line-l1id.ensures c.base_line-base.ensures c.runmode_line-runmode.ensures

pub put_fifo_words-requires : goal.put_fifo_words-requires
put_fifo_words-requires c =
    let left = words_left c.args.decoder c.args.store.now c.args.out.now c.requires.0 c.requires.1 _ _ _ _ _ _ _ _ c.put_registers-registers.ensures
    c.l1id_line-l1id.ensures c.base_line-base.ensures c.runmode_line-runmode.ensures _ _ c.put_pointers-pointers.ensures in
    left.fits

pub returns : goal.returns
returns c =
    let left = words_left c.args.decoder c.args.store.now c.args.out.now c.requires.0 c.requires.1 _ _ _ _ _ _ _ _ c.put_registers-registers.ensures
    c.l1id_line-l1id.ensures c.base_line-base.ensures c.runmode_line-runmode.ensures _ _ c.put_pointers-pointers.ensures in
    c.put_fifo_words.ensures ∙ left.whole_put

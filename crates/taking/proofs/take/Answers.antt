-- `take` rejects what is unfit, in the order of the table, and else runs.
-- Assumes nothing.
use mathlib.Core.Bool.{true}
use mathlib.Core.Path.{◌≡◌, ◌∙◌, sym}
use lib.ListN.{length}
use Rattle.decoder.specs.Sound.{sound_of}
use Rattle.calls.proofs.Refusals.{unsound, wrong_buffers, wrong_range, clock_over, taken}
use Rattle.calls.proofs.Refusals.{clock_short, clock_long, sound_is, May, run_may}
use Rattle.taking.proofs.take.Goals as goal

pub returns-then-not-sound : goal.returns-then-not-sound
returns-then-not-sound c = rw c.refused.ensures (sym (unsound c.args.decoder _ (sym c.sound.ensures ∙ c.if-not-sound.true)))

pub returns-then-not-buffers_fit : goal.returns-then-not-buffers_fit
returns-then-not-buffers_fit c =
    rw c.refused-then-not-buffers_fit.ensures
    (sym (wrong_buffers c.args.decoder _ (sym c.sound.ensures ∙ c.if-not-sound.false) (sym c.buffers_fit.ensures ∙ c.if-not-buffers_fit.true)))

pub returns-then-not-range_fits : goal.returns-then-not-range_fits
returns-then-not-range_fits c =
    rw c.refused-then-not-range_fits.ensures
    (sym (wrong_range c.args.decoder _ (sym c.sound.ensures ∙ c.if-not-sound.false) (sym c.buffers_fit.ensures ∙ c.if-not-buffers_fit.false)
    (sym c.range_fits.ensures ∙ c.if-not-range_fits.true)))

pub overflow_sub-decoder : goal.overflow_sub-decoder
overflow_sub-decoder c = (sound_is c.args.decoder (sym c.sound.ensures ∙ c.if-not-sound.false)).next

pub returns-then-decoder-count : goal.returns-then-decoder-count
returns-then-decoder-count c =
    let s : sound_of c.args.decoder ≡ true = sym c.sound.ensures ∙ c.if-not-sound.false in
    rw c.refused-then-decoder-count.ensures
    (sym (clock_over c.args.decoder _ s (sym c.buffers_fit.ensures ∙ c.if-not-buffers_fit.false) (sym c.range_fits.ensures ∙ c.if-not-range_fits.false)
    (clock_short _ _ (sound_is c.args.decoder s).next c.if-decoder-count.true)))

pub run-requires : goal.run-requires
run-requires c =
    let f = sound_is c.args.decoder (sym c.sound.ensures ∙ c.if-not-sound.false) in
    let m : May c.args.decoder.next (length c.args.store.now) (length c.args.input.now) c.args.first c.args.count (length c.args.list.now) c.args.free =
    run_may _ _ (length c.args.tray.now) _ _ _ _ _ f.next (sym c.buffers_fit.ensures ∙ c.if-not-buffers_fit.false)
    (sym c.range_fits.ensures ∙ c.if-not-range_fits.false) c.if-decoder-count.false
    in
    record {
      count_bound = (m.clock_fits_lem, m.store_long, f.earlier);
      input_len_bound = (m.input_short, m.in_range, m.list_long);
    }

pub returns : goal.returns
returns c =
    let s : sound_of c.args.decoder ≡ true = sym c.sound.ensures ∙ c.if-not-sound.false in
    c.run.ensures ∙ sym (taken c.args.decoder _ s (sym c.buffers_fit.ensures ∙ c.if-not-buffers_fit.false)
    (sym c.range_fits.ensures ∙ c.if-not-range_fits.false) (clock_long _ _ (sound_is c.args.decoder s).next c.if-decoder-count.false))

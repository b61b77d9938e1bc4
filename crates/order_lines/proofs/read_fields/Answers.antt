-- `read_fields` meets its contract: each field as it is read.
-- Assumes nothing.
use mathlib.Core.Path.{◌∙◌, sym, ap}
use Prim.Native.Nat.{ℕ}
use Rattle.std.proofs.Common.{None}
use Rattle.text_words.specs.Words.{words_in}
use Rattle.order_fields.specs.Fields.{zeros_field}
use Rattle.order_lines.specs.Lines.{fields_read}
use Rattle.order_lines.proofs.Lines.{read_nothing, no_zeros, no_address, no_value, no_frame_read, all_read}
use Rattle.order_lines.proofs.read_fields.Goals as goal

pub zeros_field-requires : goal.zeros_field-requires
zeros_field-requires c = (c.requires.few, c.requires.counted)

pub frame_field-requires : goal.frame_field-requires
frame_field-requires c = (c.requires.short, c.requires.long)

pub returns-in_err-zeros : goal.returns-in_err-zeros
returns-in_err-zeros c =
    let words = words_in c.args.text.now in
    rw c.from_residual.ensures
    (read_nothing (fields_read None) tt
    (no_zeros c.args.kind words (sym c.in_err-zeros.was ∙ c.zeros_field.ensures ∙ ap (λ (n : ℕ). zeros_field n words) c.requires.fields_told))
    c.requires.long)

pub returns-in_err-address : goal.returns-in_err-address
returns-in_err-address c =
    let words = words_in c.args.text.now in
    rw c.from_residual-in_err-address.ensures
    (read_nothing (fields_read None) tt
    (no_address c.args.kind words _ (sym c.in_ok-zeros.was ∙ c.zeros_field.ensures ∙ ap (λ (n : ℕ). zeros_field n words) c.requires.fields_told)
    (sym c.in_err-address.was ∙ c.address_field.ensures))
    c.requires.long)

pub returns-in_err-value : goal.returns-in_err-value
returns-in_err-value c =
    let words = words_in c.args.text.now in
    rw c.from_residual-in_err-value.ensures
    (read_nothing (fields_read None) tt
    (no_value c.args.kind words _ _ (sym c.in_ok-zeros.was ∙ c.zeros_field.ensures ∙ ap (λ (n : ℕ). zeros_field n words) c.requires.fields_told)
    (sym c.in_ok-address.was ∙ c.address_field.ensures) (sym c.in_err-value.was ∙ c.value_field.ensures))
    c.requires.long)

pub returns-in_err-frame : goal.returns-in_err-frame
returns-in_err-frame c =
    let words = words_in c.args.text.now in
    rw c.from_residual-in_err-frame.ensures
    (no_frame_read c.args.kind words _ _ (sym c.in_ok-zeros.was ∙ c.zeros_field.ensures ∙ ap (λ (n : ℕ). zeros_field n words) c.requires.fields_told)
    (sym c.in_ok-address.was ∙ c.address_field.ensures) _ (sym c.in_ok-value.was ∙ c.value_field.ensures) _ _ c.frame_field.ensures
    (c.frame_field.auto.bytes ∙ c.requires.long) c.in_err-frame.was)

pub returns : goal.returns
returns c =
    let words = words_in c.args.text.now in
    all_read c.args.kind words _ _ (sym c.in_ok-zeros.was ∙ c.zeros_field.ensures ∙ ap (λ (n : ℕ). zeros_field n words) c.requires.fields_told)
    (sym c.in_ok-address.was ∙ c.address_field.ensures) _ (sym c.in_ok-value.was ∙ c.value_field.ensures) _ _ c.frame_field.ensures
    (c.frame_field.auto.bytes ∙ c.requires.long) _ c.in_ok-frame.was

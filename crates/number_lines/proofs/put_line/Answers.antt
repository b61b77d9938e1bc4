-- `number_lines::put_line` meets its contract: where the size fits, the lead and then the numbers; else nothing.
-- Assumes nothing.
use mathlib.Core.List.{List}
use mathlib.Core.Path.{◌≡◌, refl, sym, ◌∙◌}
use Prim.Native.Nat.{ℕ, ◌+◌, ◌≤◌, ◌<◌}
use lib.ListN.{length}
use borrow.Author.Tests.{leb-true, leb-false}
use Rattle.output.specs.Block.{block, put_all, put_if_fits}
use Rattle.output.proofs.Pieces.{PartlyPut, none_put, next_put, put_when_fits, put_when_full}
use Rattle.number_lines.specs.NumberLines.{fields_text, fields_line, fields_size}
use Rattle.number_lines.proofs.LineLengths.{fields_length}
use Rattle.number_lines.proofs.put_line.Goals as goal

module _ (out lead : List ℕ) (fields : List (ℕ × ℕ)) (at size : ℕ) (h : size ≡ length lead + fields_size fields) where
  -- the size is that of the line
  sized : size ≡ length (fields_line lead fields)
  sized = h ∙ sym (fields_length lead fields)

  when_full : length out < at + size → block out at ≡ put_if_fits out at (fields_line lead fields)
  when_full full = sym (put_when_full out at (fields_line lead fields) (rw (← sized) full))

  module _ (fit : at + size ≤ length out) where
    -- past the test the whole line is left to put
    whole : PartlyPut out at (fields_line lead fields) out at (fields_line lead fields)
    whole = none_put out at (fields_line lead fields) (rw (← sized) fit)

    -- past the lead the numbers are left
    lead_put : (out' : List ℕ) (place : ℕ) → block out' place ≡ put_all out at lead → PartlyPut out at (fields_line lead fields) out' place (fields_text fields)
    lead_put out' place e = next_put whole lead (fields_text fields) refl out' place e

    line_put : (out' : List ℕ) (place : ℕ) → block out' place ≡ put_all out at (fields_line lead fields) → block out' place ≡ put_if_fits out at (fields_line lead fields)
    line_put out' place e = e ∙ sym (put_when_fits out at (fields_line lead fields) whole.fits)

pub returns-then-not-fits : goal.returns-then-not-fits
returns-then-not-fits c =
    let a = c.args in
    when_full a.out.now a.lead.now a.fields.now a.at a.size c.requires (leb-false (a.at + a.size) _ (sym c.if-not-fits.ensures))

pub put_fields-requires : goal.put_fields-requires
put_fields-requires c =
    let a = c.args in
    let fit = leb-true (a.at + a.size) _ (sym c.if-not-fits.ensures) in
    (lead_put a.out.now a.lead.now a.fields.now a.at a.size c.requires fit _ _ c.put_bytes-place.ensures).fits

pub returns : goal.returns
returns c =
    let a = c.args in
    let fit = leb-true (a.at + a.size) _ (sym c.if-not-fits.ensures) in
    let put = lead_put a.out.now a.lead.now a.fields.now a.at a.size c.requires fit _ _ c.put_bytes-place.ensures in
    line_put a.out.now a.lead.now a.fields.now a.at a.size c.requires fit _ _ (c.put_fields.ensures ∙ put.whole_put)

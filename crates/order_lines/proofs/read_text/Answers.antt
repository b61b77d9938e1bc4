-- `read_text` meets its contract: a blank line, an unknown name, another count, or the fields.
-- Assumes nothing.
use mathlib.Core.Path.{◌≡◌, ◌∙◌, sym, ap}
use mathlib.Core.Bool.{Bool, true, false}
use mathlib.Core.List.{List, []}
use Prim.Native.Nat.{ℕ}
use lib.ListN.{length, get_or}
use Rattle.std.proofs.Common.{Option, Some, None, Ok, Err}
use Rattle.std.proofs.lemmas.Result.{err_from_is_err_and}
use Rattle.text_words.specs.Words.{words_in}
use Rattle.command_names.specs.Names.{kind_named, known_kind, field_count}
use Rattle.order_lines.specs.Lines.{wrong_line, other_count, count_fits, fields_meaning, words_meaning}
use Rattle.order_lines.specs.declared.LineFault.TheVariants.{UnknownName, OtherCount, WrongField}
use Rattle.order_lines.proofs.Lines.{read_nothing, no_words, no_name, other_count_lem, fit_count, counts_differ}
use Rattle.order_lines.proofs.Lines.{count_shorter, count_longer, kind_none, kind_some, fault_told, read_on}
use Rattle.order_lines.proofs.read_text.Goals as goal
use Rattle.order_lines.proofs.read_text.Goals.{else-count-fields-via-then-count-fields+else-count-fields-2, else-count-fields-via-else-count-fields}

pub returns-then-count-eq0 : goal.returns-then-count-eq0
returns-then-count-eq0 c = read_nothing (Ok None) tt (no_words _ (sym c.word_count-count.ensures ∙ c.if-count-eq0.true)) c.requires.1

pub returns-in_err-kind : goal.returns-in_err-kind
returns-in_err-kind c =
    let words = words_in c.args.text.now in
    let none = c.in_err-kind.ensures.ok_part in
    let fault = fault_told c.kind_named.result UnknownName _ c.in_err-kind.ensures.value none in
    let p = err_from_is_err_and c.from_residual.result c.from_residual.ensures.1 in
    rw (p.1, p.2, fault)
    (read_nothing (Err UnknownName) tt
    (no_name words (λ z. c.if-count-eq0.false (c.word_count-count.ensures ∙ z)) _ (ap kind_named c.word.ensures)
    (kind_none _ (sym none ∙ c.kind_named.ensures)))
    c.requires.1)

-- the kind that the name says
module _ (words : List (List ℕ)) (name : List ℕ) (w : name ≡ get_or words 0 []) (found : Option ℕ) (k : found ≡ known_kind (kind_named name)) (kind : ℕ)
    (f : found ≡ Some kind) (some : length words ≡ 0 → ⊥) (fields count : ℕ) (n : fields ≡ field_count kind) (m : count ≡ length words) where
  known : (kind ≡ kind_named (get_or words 0 [])) × (kind ≡ 0 → ⊥)
  known = let s = kind_some (kind_named name) kind (sym f ∙ k) in (s.0 ∙ ap kind_named w, s.1)

  counted : (b : Bool) → count_fits fields count ≡ b → count_fits (field_count kind) (length words) ≡ b
  counted b e = rw (← n, ← m) e

  differs : count_fits fields count ≡ false → wrong_line other_count ≡ words_meaning words
  differs e = other_count_lem words some kind known.0 known.1 (counted false e)

  fits : count_fits fields count ≡ true → fields_meaning kind words ≡ words_meaning words
  fits e = fit_count words some kind known.0 known.1 (counted true e)

pub returns-then-count-fields-2 : goal.returns-then-count-fields-2
returns-then-count-fields-2 c =
    read_nothing (Err OtherCount) tt
    (differs (words_in c.args.text.now) _ c.word.ensures _ c.kind_named.ensures _ c.in_ok-kind.ensures.ok_part
    (λ z. c.if-count-eq0.false (c.word_count-count.ensures ∙ z)) _ _ c.field_count-fields.ensures.0 c.word_count-count.ensures
    (counts_differ _ _ c.if-count-fields.true c.if-count-fields-2.true))
    c.requires.1

pub read_fields-requires : goal.read_fields-requires
read_fields-requires c = record {
  fields_told = c.field_count-fields.ensures.0;
  few = c.field_count-fields.ensures.1;
  counted = c.word_count-count.ensures;
  short = c.requires.0;
  long = c.requires.1;
}

pub returns-in_err-read : goal.returns-in_err-read
returns-in_err-read c =
    let none = c.in_err-read.ensures.ok_part in
    let fault = fault_told c.read_fields.result WrongField _ c.in_err-read.ensures.value none in
    let p = err_from_is_err_and c.from_residual-in_err-read.result c.from_residual-in_err-read.ensures.1 in
    rw (p.1, p.2, fault)
    (read_on c.read_fields.result None none c.read_fields.ensures
    (fits (words_in c.args.text.now) _ c.word.ensures _ c.kind_named.ensures _ c.in_ok-kind.ensures.ok_part
    (λ z. c.if-count-eq0.false (c.word_count-count.ensures ∙ z)) _ _ c.field_count-fields.ensures.0 c.word_count-count.ensures
    (elim c.else-count-fields.branch [
      | else-count-fields-via-then-count-fields+else-count-fields-2 w ↦
          count_longer c.field_count-fields.result c.word_count-count.result w.if-count-fields-2.false
      | else-count-fields-via-else-count-fields w ↦ count_shorter c.field_count-fields.result c.word_count-count.result w.if-count-fields.false
    ])))

pub returns : goal.returns
returns c =
    read_on c.read_fields.result (Some c.in_ok-read.read) c.in_ok-read.ensures.ok_part c.read_fields.ensures
    (fits (words_in c.args.text.now) _ c.word.ensures _ c.kind_named.ensures _ c.in_ok-kind.ensures.ok_part
    (λ z. c.if-count-eq0.false (c.word_count-count.ensures ∙ z)) _ _ c.field_count-fields.ensures.0 c.word_count-count.ensures
    (elim c.else-count-fields.branch [
      | else-count-fields-via-then-count-fields+else-count-fields-2 w ↦
          count_longer c.field_count-fields.result c.word_count-count.result w.if-count-fields-2.false
      | else-count-fields-via-else-count-fields w ↦ count_shorter c.field_count-fields.result c.word_count-count.result w.if-count-fields.false
    ]))

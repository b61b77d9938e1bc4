-- `data_bits` reads the word COUNT.
-- Assumes nothing.
use Rattle.reply_words.proofs.Words.{too_long, no_number, zero_number, more_number, fit_number_lem}
use Rattle.reply_words.proofs.data_bits.Goals as goal

pub returns-then-word-gt4-clause-value : goal.returns-then-word-gt4-clause-value
returns-then-word-gt4-clause-value c = too_long c.args.word.now c.if-word-gt4.true

pub returns-in_err-number : goal.returns-in_err-number
returns-in_err-number c =
    rw c.from_residual.ensures
    record { value = no_number c.args.word.now c.if-word-gt4.false c.read_number.result c.in_err-number.was c.read_number.ensures; fits = tt }

pub returns-then-number-eq0-clause-value : goal.returns-then-number-eq0-clause-value
returns-then-number-eq0-clause-value c =
    zero_number c.args.word.now c.if-word-gt4.false c.read_number.result c.read_number.ensures c.in_ok-number.number c.in_ok-number.was c.if-number-eq0.true

pub returns-then-number-gt-MOST_BITS-clause-value : goal.returns-then-number-gt-MOST_BITS-clause-value
returns-then-number-gt-MOST_BITS-clause-value c =
    more_number c.args.word.now c.if-word-gt4.false c.read_number.result c.read_number.ensures c.in_ok-number.number c.in_ok-number.was
    c.if-number-gt-MOST_BITS.true

pub returns-clause-value : goal.returns-clause-value
returns-clause-value c =
    fit_number_lem c.args.word.now c.if-word-gt4.false c.read_number.result c.read_number.ensures c.in_ok-number.number c.in_ok-number.was
    c.if-number-gt-MOST_BITS.false

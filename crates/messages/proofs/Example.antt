-- Sentences, computed.
-- Assumes nothing.
use mathlib.Core.Path.{◌≡◌, refl}
use Prim.Native.Char.{code}
use Prim.Native.Nat.{ℕ}
use Rattle.output.specs.Ascii.{ascii}
use Rattle.line_meanings.specs.declared.LineNotes.{LineNotes}
use Rattle.decimal_digits.specs.Decimal.{decimal_within, labelled}
use Rattle.wrong_characters.specs.WrongCharacters.{character_text}
use Rattle.messages.specs.Sentences.{wrong_length, reason_of, sentence_of}

abbrev wrong_at : ℕ → ℕ → LineNotes
wrong_at place character = record { length = 64; place = place; character = character }

abbrev digits_only : ℕ → LineNotes
digits_only length = record { length = length; place = 0; character = 0 }

-- number 7
pub carriage_return : sentence_of 7 2 (wrong_at 5 (code "\r")) ≡ ascii "line 2: character 5 is a carriage return\n"
unfolding decimal_within labelled character_text wrong_length reason_of
carriage_return = refl

pub space : sentence_of 7 2 (wrong_at 5 (code " ")) ≡ ascii "line 2: character 5 is a space\n"
unfolding decimal_within labelled character_text wrong_length reason_of
space = refl

pub tab : sentence_of 7 2 (wrong_at 5 (code "\t")) ≡ ascii "line 2: character 5 is a tab\n"
unfolding decimal_within labelled character_text wrong_length reason_of
tab = refl

pub lower_case : sentence_of 7 2 (wrong_at 5 (code "e")) ≡ ascii "line 2: character 5 is a lower-case letter\n"
unfolding decimal_within labelled character_text wrong_length reason_of
lower_case = refl

pub not_ascii : sentence_of 7 2 (wrong_at 5 128) ≡ ascii "line 2: character 5 is byte 128, none of 0-9 and A-F\n"
unfolding decimal_within labelled character_text wrong_length reason_of
not_ascii = refl

-- number 8
pub above : sentence_of 8 2 (digits_only 65) ≡ ascii "line 2: the count of digits is 65, above 64\n"
unfolding decimal_within labelled character_text wrong_length reason_of
above = refl

pub odd : sentence_of 8 2 (digits_only 63) ≡ ascii "line 2: the count of digits is 63, which is odd\n"
unfolding decimal_within labelled character_text wrong_length reason_of
odd = refl

-- number 6
pub last_cycle : sentence_of 6 2 (digits_only 64) ≡ ascii "line 2: its bits pass the last clock cycle\n"
unfolding decimal_within labelled character_text wrong_length reason_of
last_cycle = refl

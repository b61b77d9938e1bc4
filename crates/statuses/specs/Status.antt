-- A program's exit status (ours: document 01 has none).
-- Assumes nothing.
use Rattle.std.specs.Prelude.{cond, ◌⊎◌, ◌≡◌, ℕ, ◌≤◌, eqb, Result, Ok, Err}
use Rattle.statuses.specs.declared.Status.{Status}
use Rattle.statuses.specs.declared.Status.TheVariants.{Whole, Refused, WrongWords, Failed}

-- The program did what it is asked for; it did not, as where a line is refused; wrong words; the system failed.
abbrev pub whole : ℕ
whole = 0

abbrev pub refused : ℕ
refused = 1

abbrev pub wrong_words : ℕ
wrong_words = 2

abbrev pub failed : ℕ
failed = 3

abbrev pub number_of : Status → ℕ
number_of Whole = whole
number_of Refused = refused
number_of WrongWords = wrong_words
number_of Failed = failed

-- Of a run: that of the status with which it ended, unless the system failed.
abbrev pub told : {E : Type 0} → Result Status E → ℕ
told (Ok status) = number_of status
told (Err e) = failed

-- By the number of the refusal that ended the run, 0 for none.
abbrev pub status_of : ℕ → ℕ
status_of number = cond (eqb number 0) whole refused

abbrev pub IsStatus : ℕ → Type 0
IsStatus status = status ≤ failed

-- The status at the end of a run: that of the refusal that ended it, unless the system failed.
abbrev pub Finished : ℕ → ℕ → Type 0
Finished number status = (status ≡ failed) ⊎ (status ≡ status_of number)

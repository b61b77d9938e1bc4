-- Lists of taking calls (document 01, "The damage table" and "A taking call").
-- Assumes nothing.
use Rattle.std.specs.Prelude.{List, [], ◌∷◌, ◌++◌, ℕ, ◌*◌, take, drop}
use Rattle.decoder.specs.declared.Decoder.{Decoder}
use Rattle.limits.specs.Limits.{list_unit}
use Rattle.calls.specs.Turn.{System, system_of, decoder_of}
use Rattle.calls.specs.Take.{Call, CallResult, call, offered, take_of}

-- What one call has taken: its first bits, as many as it answers.
abbrev pub bits_taken : Decoder → Call → List ℕ
bits_taken d c = take (take_of d c).taken.report.bits (offered c)

-- The words of the records that one call answers as written, as they stand in its list when it returns.
abbrev pub words_standing : Decoder → Call → List ℕ
words_standing d c = take (list_unit * (take_of d c).taken.report.records) (drop c.free (take_of d c).list)

-- "Nobody else writes the state between calls; a refused call hands it on as it came. Input, range, store, tray and record list may be others at each
-- call." Bits and records "are joined in call order".
unfoldable pub all_bits : Decoder → List Call → List ℕ
all_bits d [] = []
all_bits d (c ∷ cs) = bits_taken d c ++ all_bits (take_of d c).taken.decoder cs

unfoldable pub all_words : Decoder → List Call → List ℕ
all_words d [] = []
all_words d (c ∷ cs) = words_standing d c ++ all_words (take_of d c).taken.decoder cs

-- The state that the last of them hands on.
unfoldable pub state_left : Decoder → List Call → Decoder
state_left d [] = d
state_left d (c ∷ cs) = state_left (take_of d c).taken.decoder cs

-- "Across cuts, state, store and tray are carried over unchanged": what a call of such a list is lent of its own.
pub record Part : Type 0 where
  pub input : List ℕ
  pub first : ℕ
  pub count : ℕ
  pub list : List ℕ
  pub free : ℕ

abbrev pub call_of : System → Part → Call
call_of s p = call p.input p.first p.count s.machine.store s.machine.tray p.list p.free

abbrev pub result_of : System → Part → CallResult
result_of s p = take_of (decoder_of s) (call_of s p)

abbrev pub system_after : CallResult → System
system_after r = system_of r.taken.decoder r.store r.tray

-- The bits that a list of such calls takes, the words that it writes, and what it leaves.
unfoldable pub carried_bits : System → List Part → List ℕ
carried_bits s [] = []
carried_bits s (p ∷ ps) = bits_taken (decoder_of s) (call_of s p) ++ carried_bits (system_after (result_of s p)) ps

unfoldable pub carried_words : System → List Part → List ℕ
carried_words s [] = []
carried_words s (p ∷ ps) = words_standing (decoder_of s) (call_of s p) ++ carried_words (system_after (result_of s p)) ps

unfoldable pub carried_system : System → List Part → System
carried_system s [] = s
carried_system s (p ∷ ps) = carried_system (system_after (result_of s p)) ps

-- Clean streams (document 01, "The damage table").
-- Assumes nothing.
use Rattle.std.specs.Prelude.{Bool, true, ◌&&◌, List, [], ◌∷◌, ◌++◌, ℕ, ◌+◌, leb, replicate}
use Rattle.timing.specs.Table.{zeros_asked}
use Rattle.clean_streams.specs.Commands.{Command, code_of, width_of, command_kind}

-- The zeros between two commands, by the timing table, which goes by the kinds of their records.
abbrev pub zeros_between : Command → Command → ℕ
zeros_between c next = zeros_asked (command_kind c) (command_kind next)

-- A command with the zeros ahead of it.
pub record Item : Type 0 where
  pub ahead : ℕ
  pub command : Command

abbrev pub zeros : ℕ → List ℕ
zeros n = replicate n 0

abbrev pub item_bits : Item → List ℕ
item_bits i = zeros i.ahead ++ code_of i.command

abbrev pub item_size : Item → ℕ
item_size i = i.ahead + width_of i.command

-- "any number of whole commands with any number of zeros ahead of, between and after them"
abbrev pub stream_bits : List Item → ℕ → List ℕ
stream_bits [] trailing = zeros trailing
stream_bits (i ∷ is) trailing = item_bits i ++ stream_bits is trailing

-- "at least the timing table's between two": what follows a command, and a whole stream, of whose first zeros nothing is asked.
abbrev pub spaced : Command → List Item → Bool
spaced c [] = true
spaced c (i ∷ is) = leb (zeros_between c i.command) i.ahead && spaced i.command is

abbrev pub timed : List Item → Bool
timed [] = true
timed (i ∷ is) = spaced i.command is

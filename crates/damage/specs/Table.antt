-- The damage table as data, and the affected command (document 01, "The damage table"; document 02, F-1).
-- Assumes nothing.
use Rattle.std.specs.Prelude.{Bool, true, false, cond, ◌&&◌, ◌||◌, List, [], ◌∷◌, ℕ, suc, ◌+◌, ◌-◌, ltb, leb, eqb, drop}
use Rattle.bits.specs.Bits.{number_of}
use Rattle.recogniser.specs.declared.Request.{Request}
use Rattle.recogniser.specs.declared.Request.TheVariants.{Lv1, BadFast}
use Rattle.clean_streams.specs.Commands.{Command, lv1, bcr, ecr, cal, sync, fasts, among, code_of, width_of, is_fast_command}
use Rattle.damage.specs.Requests.{request_of}
use Rattle.clean_streams.specs.CleanStreams.{Item}
use Rattle.damage.specs.Inverted.{inverted}

-- Which bit is inverted, seen from a command: one of its own, counted from 1, or a zero so many cycles ahead of it.
pub data Hit : Type 0 where
  own_bit : ℕ → Hit
  zero_ahead : ℕ → Hit

abbrev pub same_hit : Hit → Hit → Bool
same_hit (own_bit k) (own_bit j) = eqb k j
same_hit (own_bit k) (zero_ahead d) = false
same_hit (zero_ahead d) (own_bit k) = false
same_hit (zero_ahead d) (zero_ahead e) = eqb d e

abbrev pub among_hits : Hit → List Hit → Bool
among_hits h [] = false
among_hits h (g ∷ gs) = same_hit h g || among_hits h gs

-- The table's right column: "LV1 with flip, at 5" and the like, with the position that document 02, F-1, asks; "exact at 6"; "bad Fast, at 9"; or "none".
pub data Outcome : Type 0 where
  none : Outcome
  flip_at : ℕ → ℕ → Outcome
  exact_at : ℕ → Outcome
  bad_fast_at : ℕ → Outcome

-- A row: the commands it speaks of, which bit is inverted, and what is recorded instead.
pub record Row : Type 0 where
  pub commands : List Command
  pub hits : List Hit
  pub outcome : Outcome

abbrev pub row : List Command → List Hit → Outcome → Row
row commands hits outcome = record { commands = commands; hits = hits; outcome = outcome }

-- The table, in the paper's order; a line that speaks of several commands or positions apart is a row for each.
abbrev pub table : List Row
table =
    row (lv1 ∷ []) (own_bit 1 ∷ []) (flip_at 5 1)
    ∷ row (lv1 ∷ []) (own_bit 2 ∷ []) (flip_at 5 2)
    ∷ row (lv1 ∷ []) (own_bit 3 ∷ []) (flip_at 5 3)
    ∷ row (lv1 ∷ []) (own_bit 4 ∷ []) (flip_at 5 4)
    ∷ row (lv1 ∷ []) (own_bit 5 ∷ []) (flip_at 5 5)
    ∷ row fasts (own_bit 6 ∷ own_bit 7 ∷ own_bit 8 ∷ own_bit 9 ∷ []) (bad_fast_at 9)
    ∷ row (cal ∷ []) (own_bit 1 ∷ []) (flip_at 7 3)
    ∷ row (sync ∷ []) (own_bit 1 ∷ []) (flip_at 6 1)
    ∷ row (bcr ∷ ecr ∷ []) (own_bit 1 ∷ []) none
    ∷ row (bcr ∷ ecr ∷ cal ∷ []) (own_bit 2 ∷ []) (flip_at 6 5)
    ∷ row (sync ∷ []) (own_bit 2 ∷ []) (exact_at 6)
    ∷ row fasts (own_bit 3 ∷ own_bit 4 ∷ []) none
    ∷ row (bcr ∷ ecr ∷ []) (own_bit 5 ∷ []) (flip_at 7 5)
    ∷ row (cal ∷ []) (own_bit 5 ∷ []) (exact_at 7)
    ∷ row (sync ∷ []) (own_bit 5 ∷ []) (flip_at 8 5)
    ∷ row fasts (zero_ahead 1 ∷ []) (flip_at 3 1)
    ∷ row fasts (zero_ahead 2 ∷ []) (flip_at 3 2)
    ∷ []

abbrev pub speaks_of : Row → Command → Hit → Bool
speaks_of r c h = among c r.commands && among_hits h r.hits

abbrev pub look_up : List Row → Command → Hit → Outcome
look_up [] c h = none
look_up (r ∷ rs) c h = cond (speaks_of r c h) r.outcome (look_up rs c h)

-- What stands in a command's place: nothing, or a request at one of its bits, counted from 1.
pub data Replacement : Type 0 where
  nothing : Replacement
  at : ℕ → Request → Replacement

-- A bad Fast has the damaged body.
abbrev pub damaged_body : Command → Hit → ℕ
damaged_body c (own_bit k) = number_of 0 (drop 5 (inverted (k - 1) (code_of c)))
damaged_body c (zero_ahead d) = number_of 0 (drop 5 (code_of c))

abbrev pub as_replacement : Command → Hit → Outcome → Replacement
as_replacement c h none = nothing
as_replacement c h (flip_at p position) = at p (Lv1 position)
as_replacement c h (exact_at p) = at p (Lv1 0)
as_replacement c h (bad_fast_at p) = at p (BadFast (damaged_body c h))

-- The command itself, at its last bit.
abbrev pub itself : Command → Replacement
itself c = at (width_of c) (request_of c)

-- A bit of the command inverted, or a zero ahead of it.
abbrev pub damage : Command → Hit → Replacement
damage c h = as_replacement c h (look_up table c h)

-- "an inverted zero that no command holds, one or two cycles ahead of a Fast"
abbrev pub hits_fast : Command → ℕ → Bool
hits_fast c distance = is_fast_command c && leb distance 2

-- "Affected: the command holding the inverted bit; or .. that Fast; otherwise none": of an item whose bit k is inverted, counted from 0 at the first of
-- its zeros.
abbrev pub affected : Item → ℕ → Bool
affected i k = cond (ltb k i.ahead) (hits_fast i.command (i.ahead - k)) true

-- The same bit, seen from the item's command.
abbrev pub hit_of : Item → ℕ → Hit
hit_of i k = cond (ltb k i.ahead) (zero_ahead (i.ahead - k)) (own_bit (suc (k - i.ahead)))

abbrev pub replacement_of : Item → ℕ → Replacement
replacement_of i k = cond (affected i k) (damage i.command (hit_of i k)) (itself i.command)

-- How many rows speak of a hit on a command.
abbrev pub rows_for : List Row → Command → Hit → ℕ
rows_for [] c h = 0
rows_for (r ∷ rs) c h = cond (speaks_of r c h) 1 0 + rows_for rs c h

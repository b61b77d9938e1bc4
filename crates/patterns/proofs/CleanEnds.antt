-- A clean stream that grows at its end: by a zero, and by a command in time.
-- Assumes nothing.
use mathlib.Core.Path.{◌≡◌, ◌∙◌, refl, sym, ap}
use mathlib.Core.Bool.{true}
use mathlib.Core.List.{List, [], ◌∷◌, ◌++◌, append_assoc, append-nil}
use Prim.Native.Nat.{ℕ, zero, suc}
use lib.Dec.{T, leb}
use Rattle.bits.proofs.Truth.{and_both, and_left, and_right}
use Rattle.timing.specs.Table.{zeros_asked}
use Rattle.clean_streams.specs.Commands.{Command, code_of, command_kind}
use Rattle.clean_streams.specs.CleanStreams.{Item, zeros, zeros_between, item_bits, stream_bits, spaced, timed}
use Rattle.patterns.specs.Accepted.{last_from, last_kind}

abbrev pub item : ℕ → Command → Item
item ahead c = record { ahead = ahead; command = c }

-- Zeros with one more at their end.
zeros_end : (n : ℕ) → zeros (suc n) ≡ zeros n ++ (0 ∷ [])
zeros_end zero = refl
zeros_end (suc n) = ap (λ (l : List ℕ). 0 ∷ l) (zeros_end n)

pub zero_behind : (items : List Item) (t : ℕ) → stream_bits items (suc t) ≡ stream_bits items t ++ (0 ∷ [])
zero_behind [] t = zeros_end t
zero_behind (i ∷ is) t = ap (λ (l : List ℕ). item_bits i ++ l) (zero_behind is t) ∙ sym (append_assoc (item_bits i) (stream_bits is t) (0 ∷ []))

pub command_behind : (items : List Item) (t : ℕ) (c : Command) → stream_bits (items ++ (item t c ∷ [])) 0 ≡ stream_bits items t ++ code_of c
command_behind [] t c = append-nil (zeros t ++ code_of c)
command_behind (i ∷ is) t c =
    ap (λ (l : List ℕ). item_bits i ++ l) (command_behind is t c) ∙ sym (append_assoc (item_bits i) (stream_bits is t) (code_of c))

-- The last command is then this one.
pub last_behind : (last : ℕ) (items : List Item) (t : ℕ) (c : Command) → last_from last (items ++ (item t c ∷ [])) ≡ command_kind c
last_behind last [] t c = refl
last_behind last (i ∷ is) t c = last_behind (command_kind i.command) is t c

-- In time behind a command, and in a stream.
spaced_behind : (d : Command) (items : List Item) (t : ℕ) (c : Command) → T (spaced d items)
    → T (leb (zeros_asked (last_from (command_kind d) items) (command_kind c)) t) → T (spaced d (items ++ (item t c ∷ [])))
spaced_behind d [] t c s h = and_both (leb (zeros_between d c) t) true h tt
spaced_behind d (i ∷ is) t c s h =
    let first = leb (zeros_between d i.command) i.ahead in
    and_both first _ (and_left first _ s) (spaced_behind i.command is t c (and_right first _ s) h)

pub timed_behind : (items : List Item) (t : ℕ) (c : Command) → T (timed items) → T (leb (zeros_asked (last_kind items) (command_kind c)) t)
    → T (timed (items ++ (item t c ∷ [])))
timed_behind [] t c s h = tt
timed_behind (i ∷ is) t c s h = spaced_behind i.command is t c s h

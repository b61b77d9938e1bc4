-- The names of the commands, and how many fields each has (document 01, "Hunting" and "Slow commands"; the forms are ours).
-- Assumes nothing.
use Rattle.std.specs.Prelude.{Bool, cond, List, [], ◌∷◌, ℕ, ◌+◌, Option, Some, None, eqb}
use Rattle.records.specs.Records.{kind_lv1, kind_fast, kind_slow}
use Rattle.orders.specs.Fields.{uses_address, uses_value, is_frame_kind}
use Rattle.output.specs.Ascii.{ascii}
use Rattle.text_words.specs.Words.{same_word}

-- A command by its name and the kind of its record.
pub record Named : Type 0 where
  pub name : List ℕ
  pub kind : ℕ

abbrev pub named : List ℕ → ℕ → Named
named name kind = record { name = name; kind = kind }

abbrev pub commands : List Named
commands =
    named (ascii "lv1") kind_lv1
    ∷ named (ascii "bcr") (kind_fast 1)
    ∷ named (ascii "ecr") (kind_fast 2)
    ∷ named (ascii "cal") (kind_fast 4)
    ∷ named (ascii "sync") (kind_fast 8)
    ∷ named (ascii "wr-register") (kind_slow 0)
    ∷ named (ascii "rd-register") (kind_slow 1)
    ∷ named (ascii "wr-fifo") (kind_slow 2)
    ∷ named (ascii "rd-fifo") (kind_slow 3)
    ∷ named (ascii "wr-front-end") (kind_slow 4)
    ∷ named (ascii "rd-front-end") (kind_slow 5)
    ∷ named (ascii "wr-receiver") (kind_slow 6)
    ∷ named (ascii "en-data-take") (kind_slow 8)
    ∷ named (ascii "global-reset-mcc") (kind_slow 9)
    ∷ named (ascii "global-reset-fe") (kind_slow 10)
    ∷ []

-- The kind that a name has among some commands; 0 where none has it, which no command is.
unfoldable pub kind_among : List Named → List ℕ → ℕ
kind_among [] name = 0
kind_among (c ∷ cs) name = cond (same_word name c.name) c.kind (kind_among cs name)

abbrev pub kind_named : List ℕ → ℕ
kind_named name = kind_among commands name

-- A kind, if it is one.
abbrev pub known_kind : ℕ → Option ℕ
known_kind kind = cond (eqb kind 0) None (Some kind)

-- Its fields: the address, the value, the frame, those that it uses, in this order.
abbrev pub one_if : Bool → ℕ
one_if b = cond b 1 0

abbrev pub field_count : ℕ → ℕ
field_count kind = one_if (uses_address kind) + (one_if (uses_value kind) + one_if (is_frame_kind kind))

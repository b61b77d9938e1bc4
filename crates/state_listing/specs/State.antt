-- The controller as the commands left it, as text (ours: document 01 has none).
-- Assumes nothing.
use Rattle.std.specs.Prelude.{cond, List, [], ◌++◌, ℕ, zero, suc, ◌+◌, ◌/◌, ◌%◌, eqb, length, get_or}
use Rattle.plans.specs.declared.Plan.{Plan}
use Rattle.registers.specs.declared.Model.{Model}
use Rattle.registers.specs.declared.Pointers.{Pointers}
use Rattle.plans.specs.Plan.{exists_at}
use Rattle.registers.specs.Registers.{read_of}
use Rattle.decoder.specs.declared.Decoder.{Decoder}
use Rattle.state_lines.specs.StateLines.{register_line, l1id_line, base_line, runmode_line, pointers_line, word_line}

-- The registers' addresses, the FIFOs, and the words of each FIFO.
abbrev pub address_count : ℕ
address_count = 16

abbrev pub fifo_count : ℕ
fifo_count = 16

abbrev pub fifo_length : ℕ
fifo_length = 128

-- The texts of n numbers from i on.
unfoldable pub texts_from : ℕ → ℕ → (ℕ → List ℕ) → List ℕ
texts_from zero i text = []
texts_from (suc n) i text = text i ++ texts_from n (i + 1) text

-- A register that exists, as it reads: CSR with the warnings in it.
abbrev pub register_text : Plan → Model → ℕ → List ℕ
register_text plan m i = cond (exists_at plan i) (register_line i (read_of plan m i)) []

-- The registers, by their addresses.
abbrev pub all_registers_text : Plan → Model → List ℕ
all_registers_text plan m = texts_from address_count 0 (register_text plan m)

-- The pointers of FIFO i, and of all.
abbrev pub pointers_text : Pointers → ℕ → List ℕ
pointers_text p i = pointers_line i (get_or p.writes i 0) (get_or p.reads i 0)

abbrev pub all_pointers_text : Pointers → List ℕ
all_pointers_text p = texts_from fifo_count 0 (pointers_text p)

-- A FIFO word that is not 0; the words of a FIFO stand in a row.
abbrev pub fifo_word_text : List ℕ → ℕ → List ℕ
fifo_word_text store i = cond (eqb (get_or store i 0) 0) [] (word_line (i / fifo_length) (i % fifo_length) (get_or store i 0))

abbrev pub all_fifo_words_text : List ℕ → List ℕ
all_fifo_words_text store = texts_from (length store) 0 (fifo_word_text store)

unfoldable pub state_text : Decoder → List ℕ → List ℕ
state_text d store =
    all_registers_text d.plan d.model
    ++ (l1id_line d.model.counters.l1id
    ++ (base_line d.model.counters.base
    ++ (runmode_line d.model.running
    ++ (all_pointers_text d.model.pointers ++ all_fifo_words_text store))))

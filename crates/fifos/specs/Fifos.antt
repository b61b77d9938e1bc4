-- The receiver FIFOs (document 01, "What commands do"): 16 of 128 words; FIFO n from word 128 × n of the store, document 01's term.
-- Assumes nothing.
use Rattle.std.specs.Prelude.{cond, List, ℕ, zero, suc, ◌+◌, ◌*◌, ◌/◌, ◌%◌, ◌^◌, eqb, get_or, set}

pub record Fifos : Type 0 where
  pub writes : List ℕ
  pub store : List ℕ

-- "then moves that pointer on, modulo 128"
abbrev pub moved_on : ℕ → ℕ
moved_on pointer = (pointer % 128 + 1) % 128

-- The word at FIFO n's write pointer.
abbrev pub push_of : ℕ → ℕ → Fifos → Fifos
push_of n word f =
    let pointer = get_or f.writes n 0 in
    record { writes = set f.writes n (moved_on pointer); store = set f.store (n * 128 + pointer % 128) word }

-- "each FIFO whose bit in FEEN is 1"
abbrev pub push_if : ℕ → ℕ → ℕ → Fifos → Fifos
push_if n feen word f = cond (eqb (feen / 2 ^ n % 2) 1) (push_of n word f) f

-- So many FIFOs from FIFO n on.
unfoldable pub write_of : ℕ → ℕ → ℕ → ℕ → Fifos → Fifos
write_of zero n feen word f = f
write_of (suc k) n feen word f = write_of k (n + 1) feen word (push_if n feen word f)

-- "the low 27 bits at the read pointer" of a FIFO
abbrev pub read_word_of : List ℕ → ℕ → ℕ → ℕ
read_word_of store n pointer = get_or store (n * 128 + pointer % 128) 0 % 2 ^ 27

-- What a run of a program leaves. No contract can name what the system reads: `characters` below are those that some reads would bring.
-- Assumes nothing.
use Rattle.std.specs.Prelude.{List, ◌⊎◌, ◌≡◌, ℕ}
use Rattle.program.specs.declared.PrintOptions.{PrintOptions}
use Rattle.program.specs.Program.{program_of}
use Rattle.statuses.specs.Status.{failed, status_of}

-- The store and the tray are those that the program leaves for some characters, and the status is that of the refusal that ends it.
pub record RanOn (prints : PrintOptions) (status : ℕ) (store tray store' tray' : List ℕ) : Type 0 where
  pub characters : List ℕ
  pub store_left : store' ≡ (program_of prints store tray characters).system.machine.store
  pub tray_left : tray' ≡ (program_of prints store tray characters).system.machine.tray
  pub status_told : status ≡ status_of (program_of prints store tray characters).refusal.number

-- Or the system failed.
abbrev pub Ran : PrintOptions → ℕ → List ℕ → List ℕ → List ℕ → List ℕ → Type 0
Ran prints status store tray store' tray' = (status ≡ failed) ⊎ RanOn prints status store tray store' tray'

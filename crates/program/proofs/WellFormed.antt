-- A run stays well formed while its decoder and buffers are kept, and its places are in range; and a run with other input.
-- Assumes nothing.
use Rattle.std.proofs.Common.{◌≡◌, ℕ, ◌+◌, ◌≤◌, Bool, List, length, refl}
use Rattle.line_meanings.specs.declared.LineSoFar.{LineSoFar}
use Rattle.program.specs.declared.RunState.{RunState}
use Rattle.program.specs.RunState.{Snapshot, snapshot, line_bits, WellFormed, with_input}

pub well_formed_with : {g : Snapshot} → WellFormed g → (r : RunState) (out : List ℕ)
    → r.decoder ≡ g.state.decoder → r.first + r.count ≤ line_bits → r.filled ≤ length out → WellFormed (snapshot r g.store g.tray out)
well_formed_with w r out d range filled = record { sound = rw d w.sound; store = w.store; tray = w.tray; range = range; filled = filled }

module _ {s : RunState} {store tray out : List ℕ} (w : WellFormed (snapshot s store tray out)) where
  pub input_well_formed : (line : LineSoFar) (next length : ℕ) (eof over : Bool) (number : ℕ)
      → WellFormed (snapshot (with_input s line next length eof over number) store tray out)
  input_well_formed line next length eof over number = well_formed_with w (with_input s line next length eof over number) out refl w.range w.filled

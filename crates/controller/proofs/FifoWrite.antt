-- A WrFifo, by what the FIFOs became.
-- Assumes nothing.
use mathlib.Core.Bool.{true}
use mathlib.Core.List.{List}
use mathlib.Core.Path.{◌≡◌}
use Prim.Native.Nat.{ℕ, ◌%◌, ◌^◌}
use Rattle.plans.specs.declared.Plan.{Plan}
use Rattle.registers.specs.declared.Model.{Model}
use Rattle.registers.specs.Registers.{feen_of}
use Rattle.registers.specs.Parts.{pointers, with_pointers}
use Rattle.fifos.specs.Fifos.{write_of}
use Rattle.fifos.proofs.WriteLoop.{fifos}
use Rattle.records.specs.Records.{flag_acted}
use Rattle.triggers.specs.Triggers.{recorded}
use Rattle.controller.specs.Commands.{effect, slow_record, write_fifo_of}

pub wrote : (plan : Plan) (m : Model) (value time : ℕ) (store w s : List ℕ)
    → fifos w s ≡ write_of 16 0 (feen_of plan m) (value % 2 ^ 27) (fifos m.pointers.writes store)
    → effect (recorded (with_pointers (pointers w m.pointers.reads) m) (slow_record time 2 (flag_acted true) (value % 2 ^ 27))) s
    ≡ write_fifo_of plan m value time store
wrote plan m value time store w s e = rw (← e)

-- `kernelstill_hex_line` answers what reading the line into the buffer answers.
-- Assumes nothing.
use mathlib.Core.Path.{ap}
use Rattle.line_meanings.specs.Line.{Read}
use Rattle.host_lines.specs.Lines.{line_result}
use Rattle.host_lines.proofs.kernelstill_hex_line.Goals as goal

pub returns-in-Ok : goal.returns-in-Ok
returns-in-Ok c = ap (λ (read : Read). line_result read.number read.buffer) c.in-Ok.ensures

pub returns-in-Err : goal.returns-in-Err
returns-in-Err c = rw (c.from.ensures, c.number.ensures) (ap (λ (read : Read). line_result read.number read.buffer) c.in-Err.ensures)

-- What is answered of a stream, as the definition says it.
-- Assumes nothing.
use Rattle.std.specs.Prelude.{Result, Ok, Err}
use Rattle.patterns.specs.declared.StreamFault.{StreamFault}
use Rattle.patterns.specs.declared.StreamFault.TheVariants as fault
use Rattle.patterns.specs.Verdict.{Verdict, Accepted, WrongRange, Unknown, Cut, TooClose}

abbrev pub refused : StreamFault → Verdict
refused fault.WrongRange = WrongRange
refused (fault.Unknown place) = Unknown place
refused (fault.Cut place) = Cut place
refused (fault.TooClose place) = TooClose place

abbrev pub answered : Result Unit StreamFault → Verdict
answered (Ok _) = Accepted
answered (Err error) = refused error

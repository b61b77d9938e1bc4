pub mod TracesJoined
pub mod Recovery
pub mod InvertedBit
pub mod HitRuns
pub mod TraceRecords
pub mod RunModeEffects
pub mod CallLists

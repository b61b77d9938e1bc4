pub mod FifoWrite
pub mod EffectCases
pub mod EffectKeeps
pub mod RecordStamps
pub mod RecordsFit
pub mod RequestsFit

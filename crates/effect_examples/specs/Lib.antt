pub mod RegisterTable
pub mod FifoTable
pub mod CounterTable
pub mod FrameTable
pub mod EffectTable
pub mod EffectExamples

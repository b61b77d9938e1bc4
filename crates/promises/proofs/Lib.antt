pub mod Refusals
pub mod Frames
pub mod ListParts
pub mod RunGoesOn
pub mod RecordLines
pub mod Records
pub mod ManyHits
pub mod Damage

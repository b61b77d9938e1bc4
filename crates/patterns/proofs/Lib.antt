pub mod PatternLaws
pub mod VerdictSteps
pub mod CleanEnds
pub mod Verdicts
pub mod Examples
pub mod WithinRange

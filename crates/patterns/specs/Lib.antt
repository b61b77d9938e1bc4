pub mod Verdict
pub mod Answers
pub mod Patterns
pub mod Verdicts
pub mod Accepted
pub mod VerdictTable

pub mod OpeningTable
pub mod HostTable
pub mod TextTable
pub mod HostExamples

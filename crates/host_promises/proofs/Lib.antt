pub mod Hosts
pub mod HostCalls
pub mod HostDemands
pub mod HostComposing
pub mod Programs

pub mod Hosts
pub mod HostCalls
pub mod HostComposing
pub mod Programs

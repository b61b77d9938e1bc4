pub mod FitOrders
pub mod OrderByOrder
pub mod StreamBits
pub mod Packing
pub mod Examples

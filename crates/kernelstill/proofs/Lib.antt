pub mod WidthsKept

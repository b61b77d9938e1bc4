pub mod ByteLines

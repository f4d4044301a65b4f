pub mod Bytes
pub mod Cycles
pub mod Trace

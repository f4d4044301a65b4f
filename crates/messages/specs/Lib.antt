pub mod Messages
pub mod RandomRead
pub mod Wires

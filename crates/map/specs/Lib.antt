pub mod Finding
pub mod Keeping
pub mod Sectors

pub mod Load
pub mod Locks
pub mod Note
pub mod Phase
pub mod Register
pub mod Rows
pub mod Sector
pub mod Wait

pub mod Overs
pub mod Lows
pub mod Writes
pub mod Sends

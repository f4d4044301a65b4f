pub mod Calls
pub mod Maps
pub mod Records
pub mod Sending

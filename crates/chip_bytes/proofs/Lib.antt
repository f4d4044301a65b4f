pub mod Clearing
pub mod Copies
pub mod RoundTrip
pub mod Rows
pub mod Waits

pub mod Held
pub mod Loading
pub mod RandomRead
pub mod Reading
pub mod Sending
pub mod Spelling
pub mod Telling
pub mod Writing

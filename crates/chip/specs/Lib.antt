pub mod Chip
pub mod Event
pub mod Part
pub mod Run
pub mod Stop
pub mod Transfer
pub mod View
pub mod Wire

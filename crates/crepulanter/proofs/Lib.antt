pub mod Answers
pub mod Labels
pub mod OneEvent
pub mod PowerUps
pub mod Refusals
pub mod Says

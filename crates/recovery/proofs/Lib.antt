pub mod Freeing
pub mod Keeping
pub mod PulseLaws
pub mod Recovering
pub mod TenPulses
pub mod ToldLaws

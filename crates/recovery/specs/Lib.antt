pub mod Pulses
pub mod Recovery

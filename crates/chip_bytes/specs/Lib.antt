pub mod At
pub mod Clean
pub mod State

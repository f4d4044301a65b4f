pub mod ByteLaws
pub mod CycleLaws
pub mod RunLaws

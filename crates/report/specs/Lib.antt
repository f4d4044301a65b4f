pub mod Page
pub mod Report
pub mod Text

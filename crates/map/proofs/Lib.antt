pub mod BitLaws
pub mod FindLaws
pub mod KeepLaws
pub mod MapLaws
pub mod PieceLaws
pub mod RunLaws

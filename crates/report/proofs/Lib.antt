pub mod PageLaws
pub mod ReportLaws
pub mod TextLaws

pub mod Strict
pub mod ReportText
pub mod ExplainText
pub mod ReportJson
pub mod Writing
pub mod inside

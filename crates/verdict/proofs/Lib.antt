pub mod GeneratedLaws
pub mod VerdictLaws
pub mod ListLaws
pub mod CountLaws
pub mod ReportLaws

pub mod MaskLaws
pub mod PartsLaws
pub mod GivenLaws
pub mod TextLaws
pub mod PairedLaws
pub mod VerdictLaws
pub mod Examples

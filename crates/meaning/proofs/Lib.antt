pub mod ReadingLaws
pub mod CallLaws
pub mod LineLaws
pub mod LevelLaws
pub mod MaskLaws
pub mod SetLaws
pub mod HaserLaws
pub mod ZeroLaws

pub mod BytesLaws
pub mod Laws
pub mod Places
pub mod DecimalLaws
pub mod LinesLaws
pub mod LevelLaws
pub mod AnswerLaws

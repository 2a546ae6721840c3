pub mod LentLaws
pub mod AnswerLaws
pub mod FieldLaws
pub mod PassLaws
pub mod SheetLaws
pub mod LevelLaws

pub mod TypeLaws
pub mod WordsLaws
pub mod SlotLaws
pub mod FieldLaws
pub mod NumbersLaws

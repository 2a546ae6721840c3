pub mod OtherLines
pub mod ElseLaws
pub mod WalkLaws
pub mod UnboundLaws
pub mod SlotLaws
pub mod TailLaws
pub mod FieldLaws
pub mod AmongLaws

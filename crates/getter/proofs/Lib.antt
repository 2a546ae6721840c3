pub mod RefusalLaws
pub mod ResultLaws
pub mod TextLaws

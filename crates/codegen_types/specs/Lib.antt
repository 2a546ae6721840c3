pub mod Out
pub mod Leaf
pub mod TypeString
pub mod Primitive
pub mod Examples
pub mod Written

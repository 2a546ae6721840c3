pub mod TypeLaws
pub mod Laws
pub mod ArmLaws

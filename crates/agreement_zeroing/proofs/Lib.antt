pub mod LineLaws
pub mod GroupLaws
pub mod TextLaws
pub mod InsideLaws
pub mod LeftLaws
pub mod ClaimLaws

pub mod Laws
pub mod KeywordLaws

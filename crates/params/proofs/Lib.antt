pub mod Lists
pub mod ReadLaws
pub mod WriteLaws

pub mod FirstTokens
pub mod Lists
pub mod NameKinds

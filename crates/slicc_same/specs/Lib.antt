pub mod Alike
pub mod AlikeItems
pub mod Prelude

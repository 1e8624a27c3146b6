pub mod Below
pub mod Position
pub mod Word
pub mod Prelude

pub mod Apart
pub mod Same

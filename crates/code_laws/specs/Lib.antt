pub mod Same
pub mod Runs
pub mod Setting
pub mod Holding
pub mod Whole
pub mod Calling
pub mod ExpressionLaw

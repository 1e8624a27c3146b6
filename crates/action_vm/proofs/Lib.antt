pub mod Stacks
pub mod Arms
pub mod Ready
pub mod RunSteps
pub mod Serving

pub mod EndedOnce
pub mod Exactly
pub mod FileEnds
pub mod FunctionParts
pub mod Lists
pub mod Starts
pub mod WholeFiles

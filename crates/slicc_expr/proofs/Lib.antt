pub mod Rows
pub mod MadeNodes
pub mod Ahead
pub mod Loops
pub mod StatementForms
pub mod Branches

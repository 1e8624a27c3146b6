pub mod Numbering
pub mod Handing
pub mod Visiting
pub mod Posts
pub mod Takes
pub mod TreesCross
pub mod StoresCross
pub mod BookCrosses

pub mod Numbers
pub mod Plans
pub mod Visits
pub mod Taking
pub mod Posting
pub mod Prelude

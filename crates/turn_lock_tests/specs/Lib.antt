pub mod Counts
pub mod Meetings

mod Counts
mod Meetings

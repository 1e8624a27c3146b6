pub mod DefaultWords
pub mod Lists
pub mod Small
mod DefaultMembers

pub mod Beginning
pub mod CallSteps
pub mod Joined
pub mod Keeps
pub mod MailSteps
pub mod Stays
pub mod TableSteps

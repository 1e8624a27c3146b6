mod Empty
mod Scopes
mod Taken
mod Walks

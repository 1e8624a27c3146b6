mod Lines
mod Sets

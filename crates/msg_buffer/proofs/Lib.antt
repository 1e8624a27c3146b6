mod Placed
mod Queues

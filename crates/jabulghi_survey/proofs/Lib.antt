-- What is read back from the caller's memory.
mod Stored

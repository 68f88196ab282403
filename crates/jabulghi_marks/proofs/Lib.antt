-- Laws that the proofs of several functions use, and what is proved of the members of a set.
pub mod Filling
pub mod Sets

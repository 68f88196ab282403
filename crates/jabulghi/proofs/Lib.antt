-- What the proofs of several functions use, and the theorem of specs/Refused.antt.
pub mod Refused

-- The probability that a normal number is large, in fractions; what the definition means; and how near the shares of inputs come to it.
pub mod Probability
pub mod Meaning
pub mod NormalRows

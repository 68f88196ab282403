-- The laws of specs/: polynomials over two elements, how they act on sequences of bits, divisors, the exact periods of the recurrences, of
-- the registers, of the streams and of what they draw; runs of calls; that there is one cycle.
mod Polynomials
mod Action
mod Divisors
mod Recurrences
mod Registers
mod Streams
mod Draws
mod Runs
mod Counting
mod OneCycle
pub mod Theorems

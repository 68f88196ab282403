-- Sums of positive terms over one denominator, and what is beyond a partial sum; bounds of the area, of π/2 and of the exponential; the area's slopes;
-- the cuts meet and narrow; the area's square, and so the whole is 1; the rows and the textbook's digits, by comparisons that antt computes.
mod Sums
mod Enclosures
mod Slopes
mod Meet
mod Located
mod Diagonals
mod AreaSquare
mod AtMostOne
mod NearOne
mod TailTest
mod Digits
mod Rows
pub mod Theorems

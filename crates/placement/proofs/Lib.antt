mod Counting
mod HigherEnds

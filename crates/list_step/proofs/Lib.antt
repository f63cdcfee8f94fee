mod CountingByValue
mod Ranking
mod Labelled
mod Passing
mod Clearing

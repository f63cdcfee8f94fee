mod Room
mod Widening
mod WalkingBack
mod Sweep
mod Rounds

pub mod BusyTimes
pub mod OneVerdict
pub mod RunningAndPeak
pub mod RunningInNumbers

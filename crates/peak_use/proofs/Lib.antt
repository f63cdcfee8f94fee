mod Peaked
mod Refused

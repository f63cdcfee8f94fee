mod Marking
mod Reading
mod Tallied
mod Judged
mod Refused

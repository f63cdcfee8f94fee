mod Turns
mod Whole
mod Product
mod Bounding
mod Asking

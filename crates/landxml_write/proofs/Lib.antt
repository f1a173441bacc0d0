mod Written
mod Digits
mod Found
mod Shown
mod Faces
mod Sizes

mod Putting
mod Reported
mod Reached
mod Places
mod Corners

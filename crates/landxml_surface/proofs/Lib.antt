mod Marks
mod Noted
mod Least
mod Named
mod Vertices
mod Surface
mod Sound
mod Drafted

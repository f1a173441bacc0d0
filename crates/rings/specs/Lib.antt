pub mod Tripled

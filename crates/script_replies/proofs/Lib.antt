-- Laws of what is printed: Texts on a call's answer, Tables on the ranges of two arrays.
mod Texts
pub mod Tables

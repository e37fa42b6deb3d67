-- Taking has one page call on a book, Reading the same over an image, Pages one after another, Wanting the number where one is not to be had, and Handed the promise.
pub mod Taking
pub mod Reading
pub mod Pages
pub mod Wanting
pub mod Handed

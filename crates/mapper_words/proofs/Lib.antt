-- Heights, the test of one leaf, and the sums of a word.
pub mod Heights
pub mod Leaves

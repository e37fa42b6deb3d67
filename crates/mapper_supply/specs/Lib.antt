-- What is promised of the pages that the door hands out to a map.
pub mod Supply

-- What the lines of the script print and leave.
pub mod Script

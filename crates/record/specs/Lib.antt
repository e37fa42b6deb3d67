-- What the program promises of its turns.
pub mod Taping

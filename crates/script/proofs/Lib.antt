-- Laws of the program's functions.
mod Handing
mod Looping

-- What a session keeps from turn to turn.
pub mod Sessions

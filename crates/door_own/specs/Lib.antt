-- What the contracts of the calls on a state of one's own cite.
pub mod Own

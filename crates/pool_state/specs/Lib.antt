-- What the contracts cite of the state.
pub mod Shown
pub mod State
pub mod Sound
pub mod Lent

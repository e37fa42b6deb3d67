-- What the contracts cite of the check.
pub mod IsSound

-- What the contracts cite of marks.
pub mod Marking

-- From what the calls in place leave to what is promised.
pub mod Judged

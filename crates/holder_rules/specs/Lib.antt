-- Request T-07: the register, the calls, what is sound, the state that code has, and cases.
pub mod Register
pub mod Holders
pub mod Sound
pub mod States
pub mod Cases

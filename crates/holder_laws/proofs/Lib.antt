-- What follows from request T-07's definitions.
pub mod Inserted
pub mod Entered
pub mod Outcomes
pub mod Keeps
pub mod Bytes
pub mod Lists
pub mod HandBack
pub mod Offers
pub mod Told
pub mod Entries
pub mod Ends
pub mod Alike
pub mod Demand

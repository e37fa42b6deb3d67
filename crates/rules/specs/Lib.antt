-- What a reader must believe: the rules, what a sound book is, and the ledger of examples, with cases beside it.
pub mod Rules
pub mod Sound
pub mod Ledger
pub mod Trials

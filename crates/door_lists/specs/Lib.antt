-- What the contracts of lists of calls on a state of one's own, and of images of it, cite.
pub mod Lists

-- What the contracts cite of the replies.
pub mod Replies

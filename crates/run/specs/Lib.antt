pub mod Told
pub mod Making
pub mod Replies
pub mod Tells

pub mod WordList
pub mod Replies
pub mod Proves
pub mod Texts
pub mod Numbers
pub mod NumberReplies
pub mod LeastNumbers
pub mod DeadlineNumbers

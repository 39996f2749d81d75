pub mod Does
pub mod Lists
pub mod Book
pub mod Claim
pub mod Closed
pub mod Follows
pub mod Onward
pub mod Marks

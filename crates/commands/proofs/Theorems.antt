pub mod Laws
pub mod Named
pub mod Wants
pub mod More
pub mod RoundTrip
pub mod Examples

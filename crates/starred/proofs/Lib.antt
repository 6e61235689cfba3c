pub mod Sums
pub mod ListingShown

pub mod Mixed
pub mod Buckets

-- classes named by their least rows
pub mod Naming

-- rows in a list, and classes as stretches of it
pub mod Stretches
-- classes in lists that are lent
pub mod Lent

-- classes cut by groups of rows
pub mod Cutting
-- classes in lists that are lent
pub mod Lent

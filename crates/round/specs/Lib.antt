-- rows sorted into groups by the classes that they go to
pub mod Groups
-- the rows of a set, one after the other
pub mod Members
-- the same in lists that are lent
pub mod Lent
-- what each step through the rows of a set gives
pub mod NextRow

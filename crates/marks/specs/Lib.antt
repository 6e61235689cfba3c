-- rows sorted into groups by their marks
pub mod Marks
-- groups in lists that are lent
pub mod Lent

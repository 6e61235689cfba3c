-- what merging is lent and what it leaves
pub mod Merge
-- what its steps are given and leave
pub mod Numbers

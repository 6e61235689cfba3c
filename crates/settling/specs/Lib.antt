-- what the rounds are given and leave
pub mod Settling
-- the same in lists that are lent
pub mod Lent

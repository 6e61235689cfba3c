-- the room that parting is lent
pub mod Room
-- what its steps are given and leave
pub mod Steps
-- the same in lists that are lent
pub mod Lent

-- groups of rows in chains
pub mod Chains
-- groups in lists that are lent
pub mod Lent

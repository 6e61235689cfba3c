-- the rows that lead to each row, and to the classes that wait
pub mod Leads

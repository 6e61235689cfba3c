-- rows as they stand in the cells, and classes that are named by their least rows
pub mod Rows

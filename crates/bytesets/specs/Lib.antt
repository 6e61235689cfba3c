pub mod ByteSets

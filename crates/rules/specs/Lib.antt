-- The rules of the house, in the order of the document.

-- small tools, and the sizes
pub mod Tools
pub mod Sizes
-- the pattern language
pub mod Signs
pub mod Tree
pub mod Leaves
pub mod Grammar
-- what a pattern matches
pub mod Meaning
-- nodes and sets
pub mod Nodes
pub mod SetRows
-- the numbered table
pub mod Table
pub mod Drawing
-- numbers for what is turned away
pub mod Turned
pub mod Answers
-- the entry points, and the listing
pub mod Compile
pub mod Matchers
pub mod Listing
-- what is asked above, computed: the contracts of the code cite these
pub mod Reader
pub mod Grid
pub mod Compiled
-- what is demanded
pub mod Demands

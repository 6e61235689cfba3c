-- laws that the rest shares
pub mod Tests
pub mod Lists
pub mod Sets
pub mod Pigeon
pub mod Texts
-- a pattern has one tree or one refusal
pub mod LeavesRead
pub mod TokensRead
pub mod ScanOnce
pub mod ScanSound
pub mod ReadOnce
pub mod ReadExamples
-- a tree's set rows are right
pub mod Edges
pub mod Walks
pub mod Thompson
pub mod Closing
pub mod RowsRight
pub mod RowsListed
pub mod SetRowsAll
-- what a tree's edges keep to
pub mod TidyNodes
-- merged, they make its drawing, the only one
pub mod Classes
pub mod Unique
pub mod MergedTable
pub mod CompiledTable
pub mod Drawings
-- the entry points
pub mod Answers
pub mod TableLaws
pub mod LentTable
pub mod Refusals
pub mod MatchersOnce
pub mod CompileOnce
-- what is demanded
pub mod Demands
-- the listing
pub mod RunsLongest

-- What a map's entries say of what contracts see by names.
pub mod RowLemmas
-- Lists to which what one item more shows is appended.
pub mod Growing
-- What a sort by falling numbers leaves.
pub mod Ranking
-- A state that lasted a while.
pub mod Spans

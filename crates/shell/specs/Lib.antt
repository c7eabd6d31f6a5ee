-- Pieces of a text, and trees of either make.
pub mod AnyTree
pub mod Pieces

-- Label books.
pub mod Entries
pub mod Laws
pub mod Index

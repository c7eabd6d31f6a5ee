-- When a row of elements is a pattern.
pub mod Elements

-- What the texts of trees and patterns are.
pub mod Bytes
pub mod Tokens
pub mod Reading
pub mod Results
pub mod Books
pub mod TreeText
pub mod Steps
pub mod PatternText
pub mod Rows
pub mod PatternSteps

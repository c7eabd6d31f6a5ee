-- Refusals, their numbers and their words.
pub mod Numbers
pub mod Words

-- The state of a session, runs of its calls, and the law of every run.
pub mod Session
pub mod Log
pub mod Runs
pub mod Example
pub mod Sizes

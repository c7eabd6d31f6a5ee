-- The proofs of the laws of runs.
pub mod Turns
pub mod Back
pub mod Trying
pub mod Every
pub mod Marking
pub mod Findings
pub mod Sizes

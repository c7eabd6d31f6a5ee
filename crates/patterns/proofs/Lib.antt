-- The proofs.
pub mod Kept

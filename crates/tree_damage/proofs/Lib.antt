-- The proofs.
pub mod Exchanges

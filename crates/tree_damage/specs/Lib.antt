-- The exchange of two labels.
pub mod Exchange

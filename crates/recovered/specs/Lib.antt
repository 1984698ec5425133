-- What crate `recovered` claims.
pub mod Recovered

-- Demand 3.
pub mod Demand3

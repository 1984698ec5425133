-- Demand 3 and its parts.
pub mod Frame
pub mod Image
pub mod Meets
pub mod Throwing
pub mod Carrying
pub mod Agreement
pub mod Simulation
pub mod Packed
pub mod Budget

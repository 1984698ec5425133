-- What each instruction asks for and does, and its opcode.
pub mod Plain
pub mod Taking
pub mod Dispatch

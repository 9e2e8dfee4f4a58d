pub mod Fields
pub mod Registers
pub mod Accesses
pub mod Interrupts
pub mod Kept
pub mod Laws

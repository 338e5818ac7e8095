-- The statements that a reader holds against the papers. Assumes nothing.
pub mod Checks
pub mod Demands

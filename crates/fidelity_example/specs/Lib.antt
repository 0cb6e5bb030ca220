-- A pass, computed; what goes wrong where an assumption of fidelity's statement does not hold; worked cases. Assumes nothing.
pub mod Example
pub mod Table
pub mod Requested

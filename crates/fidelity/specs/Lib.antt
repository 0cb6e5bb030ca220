-- Demand 3, the great theorem: the display is never wrong about the instrument. Pass holds the words of the statement, Fidelity the
-- statement, Interface what is used of the floors below, and the other files the proof. Assumes nothing.
pub mod Pass
pub mod Fidelity
pub mod Interface
pub mod InterfaceLaws
pub mod Replay
pub mod ReplayLaws
pub mod Chain
pub mod ChainLaws
pub mod Open
pub mod OpenLaws
pub mod RunLaws
pub mod GroundLaws
pub mod Proof

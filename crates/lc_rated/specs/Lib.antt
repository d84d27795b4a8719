pub mod LitTrees
pub mod Cuts
pub mod Finding
pub mod Nodes
pub mod Tables

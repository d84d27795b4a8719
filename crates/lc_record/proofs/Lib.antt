pub mod Lengths
pub mod Decimals
pub mod Pieces
pub mod LinesRead
pub mod OneReading
pub mod Listing
pub mod EveryValue
pub mod Told

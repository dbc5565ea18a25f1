-- Facts of lists and sums that the other rooms stand on.
pub mod Each
pub mod Sums

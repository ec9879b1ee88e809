pub mod Going
pub mod Playing
pub mod Walking
pub mod Replaying

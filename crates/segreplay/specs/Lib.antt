pub mod Lives
pub mod Counting
pub mod Playing
pub mod Traces
pub mod Caches
pub mod Replays
pub mod Laws

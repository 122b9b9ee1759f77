-- The worked example: its trace is lawful, its scan meets the premises of a miss, and a schedule of steps reaches it.
pub mod Trace
pub mod Scan
pub mod Schedule

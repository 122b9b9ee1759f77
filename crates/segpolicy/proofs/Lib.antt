pub mod CycleLemmas

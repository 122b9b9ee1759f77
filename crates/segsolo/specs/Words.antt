-- The words of this crate that others use, from one place.
pub use Rattle.segsolo.specs.Alone.{IsAlone, outcome_of_hold, outcome_of_lock, outcome_of_unlock}
pub use Rattle.segsolo.specs.Alone.{state_at, TurnsAlone}

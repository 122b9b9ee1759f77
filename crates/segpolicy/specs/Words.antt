-- The words of this crate that others use, from one place.
pub use Rattle.segpolicy.specs.Cycle.{Cycle, next_of, turned}
pub use Rattle.segpolicy.specs.Draws.{after_load, Draws, draws_of, next_load}
pub use Rattle.segpolicy.specs.Frequency.{draw_raises, frequency_after_hit}
use Rattle.segpolicy.specs.declared.load.Kind as declared_kind
use Rattle.segpolicy.specs.declared.load.Load as declared_load

-- The types of this crate that others name.
abbrev pub Kind : Type 0
Kind = declared_kind.Kind

abbrev pub Load : Type 0
Load = declared_load.Load

-- All that a lawful world says.
pub mod Drafts
pub mod Passes
use Rattle.std.proofs.Common.{ℕ, List}
use Rattle.segword.specs.Words.{Shape}
use Rattle.segcore.specs.Kind.{Step}
use Rattle.segcore.specs.World.{World, Reaches}
use Rattle.segcore.specs.Facts.{WorldFacts}
use Rattle.segcore.proofs.Schedules.{lawful}
use Rattle.segcore.proofs.Standing.{legal}
use Rattle.segcore.proofs.Marked.{placed}
use Rattle.segcore.proofs.Orderly.{orderly}
use Rattle.segcore.proofs.Exact.{says_of_keys}
use Rattle.segcore.proofs.Buckets.{says_of_buckets}
use Rattle.segcore.proofs.Segments.{says_of_segments}
use Rattle.segcore.proofs.Facts.Passes.{says_of_passes}

pub says : (z : Shape) (ss : List (ℕ × Step)) (w : World) → Reaches z ss w → WorldFacts z w
says z ss w r = let l = lawful z ss w r in let h = w.trace in record {
  legal = legal z h l.legal;
  placed = placed z h l.legal;
  orderly = orderly z h l.legal;
  keys = says_of_keys z h l.valid l.legal;
  buckets = says_of_buckets z h l.legal;
  segments = says_of_segments z h l.valid l.legal;
  passes = says_of_passes z ss w r l;
}

-- Worked examples: which words a pass may look at, and which it reads by other steps.
use Rattle.std.proofs.Common.{arith}
use Rattle.segcore.specs.declared.cell.Cell.TheVariants.{OfBucket, OfOverflow, OfSegment}
use Rattle.segcore.specs.Kind.{MayLookAt}

-- an item word
item_is_looked_at : MayLookAt (OfBucket 0 1)
item_is_looked_at = omega arith

-- not the information word, which glances and takes of its bit read
information_is_not : ¬ (MayLookAt (OfBucket 0 0))
information_is_not may = absurd (omega (arith, may))

-- not the first word of an overflow bucket, which nobody reads
unused_is_not : ¬ (MayLookAt (OfOverflow 0 0))
unused_is_not may = absurd (omega (arith, may))

-- not the word of a segment, which a pass reads as it enters
segment_is_not : ¬ (MayLookAt (OfSegment 0))
segment_is_not may = may

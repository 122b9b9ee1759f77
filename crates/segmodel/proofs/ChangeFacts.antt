-- Worked examples: which entries take a key out or store a value under it, and which don't.
use Rattle.std.proofs.Common.{Some, None, refl}
use Rattle.segmodel.specs.declared.request.Request.TheVariants.{Cas, Delete}
use Rattle.segmodel.specs.declared.request.Reply.TheVariants.{Stored, Exists, NotFound, Deleted}
use Rattle.segmodel.specs.declared.entry.Entry.TheVariants.{Wrote, Evicted, Moved}
use Rattle.segmodel.specs.Laws.{TakesKeyOut, StoresValue}
use Rattle.segmodel.specs.Example.{a, one, two}

deleted_goes : TakesKeyOut a (Wrote 0 (Delete a 7) Deleted None)
deleted_goes = refl

evicted_goes : TakesKeyOut a (Evicted 0 a 1)
evicted_goes = refl

-- a delete that finds nothing takes nothing out, and a move leaves the key where it can be read
not_found_stays : ¬ (TakesKeyOut a (Wrote 0 (Delete a 7) NotFound None))
not_found_stays goes = goes

moved_stays : ¬ (TakesKeyOut a (Moved 0 a 0 1))
moved_stays goes = goes

swapped_is_stored : StoresValue a two (Wrote 0 (Cas a two 2 4) Stored (Some 0))
swapped_is_stored = (refl, refl)

-- a refused write stores nothing, nor does a move
refused_is_not_stored : ¬ (StoresValue a two (Wrote 0 (Cas a two 1 3) Exists None))
refused_is_not_stored stored = stored

moved_is_not_stored : ¬ (StoresValue a one (Moved 0 a 0 1))
moved_is_not_stored stored = stored

-- What a replay counts of each command.
use Rattle.std.specs.Prelude.{ℕ, Bool, true, false, if◌then◌else◌}
use Rattle.segmodel.specs.Words.{DeleteAnswer}
use Rattle.segmodel.specs.declared.answer.DeleteAnswer.TheVariants as delete
use Rattle.segclient.specs.declared.put.PutAnswer.{PutAnswer}
use Rattle.segclient.specs.declared.put.PutAnswer.TheVariants as put
use Rattle.segclient.specs.Counting.{with_more}
use Rattle.segreplay.specs.declared.counts.CommandResult.{CommandResult}
use Rattle.segreplay.specs.declared.counts.CommandResult.TheVariants as outcome
use Rattle.segreplay.specs.declared.counts.Counts.{Counts}

abbrev pub no_counts : Counts
no_counts = record {
  gets = 0;
  hits = 0;
  sets = 0;
  deletes = 0;
  evicted = 0;
  kept = 0;
  refused = 0;
  busy = 0;
  stored = 0;
  given = 0;
  items = 0;
}

-- the answer to a put, counted
abbrev pub put_counted : PutAnswer → Counts → Counts
put_counted put.Stored c = c
put_counted put.NoRoom c = record c { refused = with_more c.refused 1 }
put_counted put.BucketFull c = record c { refused = with_more c.refused 1 }
put_counted put.Busy c = record c { busy = with_more c.busy 1 }

abbrev pub delete_counted : DeleteAnswer → Counts → Counts
delete_counted delete.Deleted c = c
delete_counted delete.NotFound c = c
delete_counted delete.Busy c = record c { busy = with_more c.busy 1 }

abbrev pub one_get : Counts → Counts
one_get c = record c { gets = with_more c.gets 1 }

-- one command more, which came to this
abbrev pub counted : CommandResult → Counts → Counts
counted outcome.Hit c = record (one_get c) { hits = with_more c.hits 1 }
counted (outcome.Miss told) c = put_counted told (one_get c)
counted outcome.GetBusy c = record (one_get c) { busy = with_more c.busy 1 }
counted (outcome.Set told) c = put_counted told (record c { sets = with_more c.sets 1 })
counted (outcome.Delete told) c =
    delete_counted told (record c { deletes = with_more c.deletes 1 })

-- so many evicted keys and kept items more
abbrev pub effort_counted : ℕ → ℕ → Counts → Counts
effort_counted evicted kept c =
    record c { evicted = with_more c.evicted evicted; kept = with_more c.kept kept }

-- a command put its key
abbrev pub is_stored : CommandResult → Bool
is_stored (outcome.Miss put.Stored) = true
is_stored (outcome.Set put.Stored) = true
is_stored _ = false

-- if it did, it was given this share of its time to live
abbrev pub given_counted : CommandResult → ℕ → Counts → Counts
given_counted told given c =
    if is_stored told
    then record c { stored = with_more c.stored 1; given = with_more c.given given } else c

-- the counts of two clients together
abbrev pub together : Counts → Counts → Counts
together a b = record {
  gets = with_more a.gets b.gets;
  hits = with_more a.hits b.hits;
  sets = with_more a.sets b.sets;
  deletes = with_more a.deletes b.deletes;
  evicted = with_more a.evicted b.evicted;
  kept = with_more a.kept b.kept;
  refused = with_more a.refused b.refused;
  busy = with_more a.busy b.busy;
  stored = with_more a.stored b.stored;
  given = with_more a.given b.given;
  items = with_more a.items b.items;
}

-- A history in which each kind of entry comes: it shows that the conditions of the laws can be met.
-- There are one pass, two segments of eight rows, and one bucket, which the keys a and e share.
-- Each write comes a moment after the one before.
-- A history is named after its newest entry; `whole` is the last.
use Rattle.std.specs.Prelude.{ℕ, List, [], ◌∷◌, Some, None}
use Rattle.segword.specs.Words.{Shape}
use Rattle.segmodel.specs.declared.request.Request.TheVariants.{Set, Add, Replace, Cas, Delete}
use Rattle.segmodel.specs.declared.request.Reply.TheVariants.{Stored, NotStored, Exists, Deleted}
use Rattle.segmodel.specs.declared.entry.Entry.{Entry}
use Rattle.segmodel.specs.declared.entry.Entry.TheVariants.{Wrote, Evicted, Refilled, Moved}

abbrev pub shape : Shape
shape = record {
  buckets = 1;
  overflow = 0;
  passes = 1;
  segments_each = 2;
  rows = 8;
  first_version = 0;
}

-- the keys a and e, the values 1 and 2
abbrev pub a : List ℕ
a = 97 ∷ []

abbrev pub e : List ℕ
e = 101 ∷ []

abbrev pub one : List ℕ
one = 49 ∷ []

abbrev pub two : List ℕ
two = 50 ∷ []

-- the segment is refilled up to moment 10, and a is added: the version of the bucket is 1
abbrev pub added : List Entry
added = Wrote 0 (Add a one 1) Stored (Some 0) ∷ Refilled 0 0 10 ∷ []

-- e is set: the version is 2, so that a cas that brings 1 is replied Exists
abbrev pub refused : List Entry
refused = Wrote 0 (Cas a two 1 3) Exists None ∷ Wrote 0 (Set e two 2) Stored (Some 0) ∷ added

-- a cas that brings 2 stores, a replace stores, a second add doesn't, and a delete takes e out:
-- the version is 5
abbrev pub deleted : List Entry
deleted =
    Wrote 0 (Delete e 7) Deleted None ∷ Wrote 0 (Add a one 6) NotStored None
    ∷ Wrote 0 (Replace a two 5) Stored (Some 0) ∷ Wrote 0 (Cas a two 2 4) Stored (Some 0) ∷ refused

-- another segment is refilled up to the same moment, and a is moved there: the version stays 5
abbrev pub relocated : List Entry
relocated = Moved 0 a 0 1 ∷ Refilled 0 1 10 ∷ deleted

-- nothing stands in the first segment now, so it is refilled up to moment 20;
-- then a is evicted from the other one
abbrev pub whole : List Entry
whole = Evicted 0 a 1 ∷ Refilled 0 0 20 ∷ relocated

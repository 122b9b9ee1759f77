-- Where things belong: a key to a bucket, under a tag; a segment to a pass.
-- A shape has the numbers that this depends on.
use Rattle.std.specs.Prelude.{ℕ, ◌/◌, ◌%◌, List}
use Rattle.segword.specs.Words.{hash_of, Shape, tag_from_hash}

-- the bucket of a key: its 64-bit FNV-1a hash modulo the number of buckets
abbrev pub bucket_of : Shape → List ℕ → ℕ
bucket_of shape key = hash_of key % shape.buckets

-- the tag of a key: the highest twelve bits of its hash.
-- No tag is 0: if those bits are all 0, the tag is 1.
abbrev pub tag_of : List ℕ → ℕ
tag_of key = tag_from_hash (hash_of key)

-- the pass that owns a segment: pass 0 owns the first ones, as many as each pass has,
-- then come those of pass 1
abbrev pub owner : Shape → ℕ → ℕ
owner shape segment = segment / shape.segments_each

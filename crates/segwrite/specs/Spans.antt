-- How many rows the item takes that a request stores.
use Rattle.std.specs.Prelude.{ℕ}
use Rattle.segword.specs.Words.{span_of}
use Rattle.segmodel.specs.Words.{key_of, Request, value_of}

abbrev pub rows_of : Request → ℕ
rows_of request = span_of (key_of request) (value_of request)

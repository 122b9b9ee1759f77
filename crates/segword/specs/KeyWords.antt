-- The part of an item's first words that is the key's: all but the value's length.
use Rattle.std.specs.Prelude.{ℕ, List, ◌∷◌, length, take, drop, slice_index}
use Rattle.segword.specs.declared.key.TheConstants.{KEY_ROOM, KEY_WORDS}
use Rattle.segword.specs.Row.{bytes_of, words_from}

-- a key's length, and its bytes in words
abbrev pub key_words : List ℕ → List ℕ
key_words key = length key ∷ words_from KEY_WORDS key 0

-- the key that has these words, if one has them
abbrev pub key_from : List ℕ → List ℕ
key_from words = take (slice_index words 0) (bytes_of (drop 1 words) KEY_ROOM)

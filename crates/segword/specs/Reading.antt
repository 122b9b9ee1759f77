-- The three readings of words 1 to 7 of a bucket: empty, item, chain.
use Rattle.std.specs.Prelude.{◌≡◌, ℕ, ◌<◌, ◌≤◌, ◌⊎◌}
use Rattle.segword.specs.ItemWord.{item_word, tag_part}
use Rattle.segword.specs.ChainWord.{chain_word, IsChainWord}
use Rattle.segword.specs.declared.reading.Reading.{Reading}
use Rattle.segword.specs.declared.reading.Reading.TheVariants.{Empty, Item, Chain}

-- the word that has this reading
abbrev pub reading_word : Reading → ℕ
reading_word Empty = 0
reading_word (Item item) = item_word item
reading_word (Chain number) = chain_word number

-- a chain leads to an overflow bucket that can be there
abbrev pub IsProperReading : Reading → Type 0
IsProperReading Empty = Unit {0}
IsProperReading (Item item) = Unit {0}
IsProperReading (Chain number) = number < 65536

-- the word is 0, has a tag, or chains to an overflow bucket
abbrev pub HasReading : ℕ → Type 0
HasReading word = (word ≡ 0) ⊎ ((1 ≤ tag_part word) ⊎ IsChainWord word)

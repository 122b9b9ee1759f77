-- A word that an item has, has no other reading.
use Rattle.std.proofs.Common.{◌≡◌, ap, sym, arith}
use Rattle.segword.specs.Words.{Reading}
use Rattle.segword.specs.declared.reading.Reading.TheVariants.{Empty, Item, Chain}
use Rattle.segword.specs.declared.item.Item as item_type
use Rattle.segword.specs.ItemWord.{item_word}
use Rattle.segword.specs.Reading.{reading_word, IsProperReading}
use Rattle.segword.proofs.ItemLemmas.{same_from_word}

pub item_reading : (item : item_type.Item) (reading : Reading) → IsProperReading reading → reading_word reading ≡ item_word item → Item item ≡ reading
item_reading item Empty h e = absurd (omega arith)
item_reading item (Item other) h e = ap Item (same_from_word item other (sym e))
item_reading item (Chain number) h e = absurd (omega arith)

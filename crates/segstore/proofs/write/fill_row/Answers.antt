use Rattle.std.proofs.Common.{refl}
use Rattle.segword.specs.Words.{row_of}
use Rattle.segbase.specs.Words.{trace}
use Rattle.segstore.proofs.ItemRows.{words_hold}
use Rattle.segstore.proofs.write.fill_row.Goals as goal

pub returns-clause-holds : goal.returns-clause-holds
returns-clause-holds c = let key = c.args.key.now in let value = c.args.value.now in let stores = c.store_item.ensures in
    words_hold (trace c.store_item.new.pass) c.args.row.segment c.args.row.row key value (row_of key value) stores.key stores.valid refl stores.words

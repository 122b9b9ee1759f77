use Rattle.std.proofs.Common.{◌≡◌, length, rules}
use Rattle.segword.specs.Words.{item_width}
use Rattle.segbase.specs.Words.{trace}
use Rattle.segstore.proofs.ItemRows.{item_is_pair}
use Rattle.segstore.proofs.row.pair_of_row.Goals as goal

pub returns-clause-pair : goal.returns-clause-pair
returns-clause-pair c = λ key value is_key is_value holds. let load = c.load_item in
    let long : length load.result ≡ item_width = search (rules, load.type_inv) in
    c.read_row.ensures.packed key value is_key is_value
    (item_is_pair (trace load.new.pass) c.args.segment c.args.row key value load.result is_key is_value holds long load.ensures.words)

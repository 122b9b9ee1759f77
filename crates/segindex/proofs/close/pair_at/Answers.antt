use Rattle.std.proofs.Common.{◌∙◌, rules}
use Rattle.segindex.proofs.AtRest.{row_in_table, pair_is}
use Rattle.segindex.proofs.close.pair_at.Goals as goal

pub row-requires-clause-segment : goal.row-requires-clause-segment
row-requires-clause-segment c = let r = c.requires in (row_in_table c.args.words.now r.0 r.1 r.2 c.args.place r.3 r.4 c.in_ok-item.item (c.in_ok-item.ensures.some ∙ c.item.ensures)).0

pub row-requires-clause-row : goal.row-requires-clause-row
row-requires-clause-row c = let r = c.requires in (row_in_table c.args.words.now r.0 r.1 r.2 c.args.place r.3 r.4 c.in_ok-item.item (c.in_ok-item.ensures.some ∙ c.item.ensures)).1

pub returns : goal.returns
returns c = λ trace home at rest is. pair_is c.args.words.now trace home at c.args.place rest is c.in_ok-item.item
    (c.in_ok-item.ensures.some ∙ c.item.ensures) c.row.result c.read_row.result (search (rules, c.row.type_inv))
    c.row.ensures c.read_row.ensures.packed

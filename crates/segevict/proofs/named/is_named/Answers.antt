use Rattle.segbase.proofs.Starting.{has_later}
use Rattle.segwrite.proofs.Places.{idles_then}
use Rattle.segevict.proofs.Naming.{tells_at}
use Rattle.segevict.proofs.named.is_named.Goals as goal

pub returns-clause-idles : goal.returns-clause-idles
returns-clause-idles c = let r = c.item_of_row-bucket in let f = c.find_row in
    idles_then c.args.board.now c.args.pass.now r.new.pass f.new.pass r.ensures.idles f.ensures.idles

pub returns-clause-told : goal.returns-clause-told
returns-clause-told c = let r = c.item_of_row-bucket in let f = c.find_row in
    tells_at c.args.board.now r.result.0 r.result.1 c.args.segment c.args.row f.result c.is_some.result f.new.pass r.ensures.place c.is_some.ensures f.ensures.idles.moved.pass f.ensures.finds

pub returns-clause-looks : goal.returns-clause-looks
returns-clause-looks c = let r = c.item_of_row-bucket in let f = c.find_row in
    has_later c.args.pass.now r.new.pass f.new.pass r.ensures.idles.moved.same r.ensures.idles.moved.steps f.ensures.looks

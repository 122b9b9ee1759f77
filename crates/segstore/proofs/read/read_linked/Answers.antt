use Rattle.std.proofs.Common.{refl, sym, ap, ◌∙◌}
use Rattle.std.proofs.lemmas.Option.{same_Some}
use Rattle.segword.specs.Words.{item_word}
use Rattle.segbase.specs.Words.{trace}
use Rattle.segstore.proofs.Seconds.{holds_item, found_item, found_as, then_row}
use Rattle.segstore.proofs.read.read_linked.Goals as goal

pub unwrap-key-requires : goal.unwrap-key-requires
unwrap-key-requires c = let b = c.args.board.now in let x = c.in-Ok.ensures.same in let r = c.pair_of_row in
    let pair = r.ensures.pair x.key x.value x.was.valid.0 x.was.valid.1 (holds_item b c.look_again.new.pass r.new.pass c.args.place c.in-Ok.item x.key x.value x.was r.ensures.reads) in
    rw pair refl

pub returns-in-Ok-clause-looked : goal.returns-in-Ok-clause-looked
returns-in-Ok-clause-looked c = then_row c.args.board.now c.args.pass.now c.look_again.new.pass
    c.pair_of_row.new.pass c.in-Ok.item.seg c.in-Ok.item.row c.in-Ok.ensures.looked c.pair_of_row.ensures.reads

pub returns-in-Ok-clause-linked : goal.returns-in-Ok-clause-linked
returns-in-Ok-clause-linked c = let b = c.args.board.now in let x = c.in-Ok.ensures.same in let r = c.pair_of_row in
    let p = c.args.pass.now in let q = c.look_again.new.pass in let item = c.in-Ok.item in
    let pair = r.ensures.pair x.key x.value x.was.valid.0 x.was.valid.1 (holds_item b q r.new.pass c.args.place item x.key x.value x.was r.ensures.reads) in
    let one = same_Some _ _ (sym pair ∙ c.unwrap-key.ensures) in (
      item_word item,
      x.same,
      found_as b.shape (trace p) (trace r.new.pass) c.args.place (item_word item) x.key
          x.value _ _ (ap (λ y. y.0) one) (ap (λ y. y.1) (sym one))
          (found_item b p q r.new.pass c.args.place item x.key x.value c.in-Ok.ensures.looked x.was x.entered
          r.ensures.reads),
    )

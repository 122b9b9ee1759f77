use Rattle.std.proofs.lemmas.Bool.{false≢true}
use Rattle.std.proofs.Common.{refl}
use Rattle.segword.specs.Words.{item_word}
use Rattle.segbase.specs.Words.{trace}
use Rattle.segstore.proofs.Seconds.{holds_item, saw_item, found_item, found_as, then_row}
use Rattle.segstore.proofs.read.read_keyed.Goals as goal

pub returns-in-Some-clause-looked : goal.returns-in-Some-clause-looked
returns-in-Some-clause-looked c = then_row c.args.board.now c.args.pass.now c.look_again.new.pass
    c.row_of_key.new.pass c.in-Ok.item.seg c.in-Ok.item.row c.in-Ok.ensures.looked c.row_of_key.ensures.reads

pub returns-in-Some-clause-keyed : goal.returns-in-Some-clause-keyed
returns-in-Some-clause-keyed c = let b = c.args.board.now in let x = c.in-Ok.ensures.same in
    let p = c.args.pass.now in let q = c.look_again.new.pass in let k = c.row_of_key in let item = c.in-Ok.item in
    let key = (c.in-Some.ensures.key x.key x.value x.was.valid.0 x.was.valid.1 (holds_item b q k.new.pass c.args.place item x.key x.value x.was k.ensures.reads)).0 refl in (
      x.same,
      record {
        value = x.value;
        found = found_as b.shape (trace p) (trace k.new.pass) c.args.place (item_word item) x.key x.value _ _ key
            refl (found_item b p q k.new.pass c.args.place item x.key x.value c.in-Ok.ensures.looked x.was x.entered
            k.ensures.reads);
        begins = c.in-Some.ensures.header;
      },
    )

pub returns-in-None-clause-looked : goal.returns-in-None-clause-looked
returns-in-None-clause-looked c = then_row c.args.board.now c.args.pass.now c.look_again.new.pass
    c.row_of_key.new.pass c.in-Ok.item.seg c.in-Ok.item.row c.in-Ok.ensures.looked c.row_of_key.ensures.reads

pub returns-in-None-clause-keyed : goal.returns-in-None-clause-keyed
returns-in-None-clause-keyed c = let b = c.args.board.now in let x = c.in-Ok.ensures.same in let q = c.look_again.new.pass in let k = c.row_of_key in let item = c.in-Ok.item in
    let key = c.in-None.ensures.key x.key x.value x.was.valid.0 x.was.valid.1 (holds_item b q k.new.pass c.args.place item x.key x.value x.was k.ensures.reads) in
    (x.same, (x.key, x.value, (λ e. false≢true (key.1 e)), saw_item b c.args.pass.now q k.new.pass c.args.place (item_word item) x.key x.value c.in-Ok.ensures.looked k.ensures.reads.looked x.was))

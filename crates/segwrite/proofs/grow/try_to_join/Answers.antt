use Rattle.std.proofs.Common.{◌≡◌, ℕ, [], ◌∷◌, sym, subst, arith}
use Rattle.std.specs.Prelude.{OnOk}
use Rattle.segword.specs.Words.{Item, item_word}
use Rattle.segcore.specs.declared.event.Event.TheVariants.{Put, Chained}
use Rattle.segcore.specs.Words.{fill, May}
use Rattle.segbase.specs.Words.{AddsAtOnce, Board, home_at, home_bucket_of, IsPassOf, number, Pass}
use Rattle.segbase.specs.Words.{Place, trace}
use Rattle.segstore.proofs.Looks.{one_step}
use Rattle.segstore.proofs.Seconds.{unpacked}
use Rattle.segwrite.specs.Growing.{IsLast, HasSpare}
use Rattle.segwrite.proofs.Joining.{drawn_home, may_fill, spare_filled, last_filled, copy_filled, home_is, may_chain, tried}
use Rattle.segwrite.proofs.grow.try_to_join.Goals as goal

pub fill_overflow-requires-clause-may : goal.fill_overflow-requires-clause-may
fill_overflow-requires-clause-may c = let b = c.args.board.now in let r = c.requires in
    let word = unpacked c.unpack.result c.unwrap-item.result c.args.word c.unpack.ensures.some c.unwrap-item.ensures in
    subst (λ w. May b.shape (trace c.args.pass.now) (number c.args.pass.now) (fill (home_bucket_of (trace c.args.pass.now) c.args.overflow) c.args.overflow w)) (sym word)
    (may_fill b _ c.args.overflow c.args.place c.args.word c.args.pass.now r.pass r.spare r.last)

-- what was stored, in the terms of the bucket
did_put : (b : Board) (bucket overflow : ℕ) (place : Place) (item : Item) (word : ℕ) (p r : Pass) → IsPassOf b p → HasSpare b bucket overflow p → IsLast b bucket place word p → item_word item ≡ word
    → AddsAtOnce b (Put (number p) (home_bucket_of (trace p) overflow) (item_word item) ∷ []) p r → AddsAtOnce b (Put (number p) bucket word ∷ []) p r
did_put b bucket overflow place item word p r is spare last same d =
    subst (λ w. AddsAtOnce b (Put (number p) bucket w ∷ []) p r) same
    (subst (λ k. AddsAtOnce b (Put (number p) k (item_word item) ∷ []) p r)
    (drawn_home b bucket overflow place word p is spare last) d)

pub chain-requires-clause-may : goal.chain-requires-clause-may
chain-requires-clause-may c = let b = c.args.board.now in let r = c.requires in let p = c.args.pass.now in let filled = c.fill_overflow.new.pass in
    let bucket = home_at b c.args.place p in let o = c.args.overflow in let w = c.args.word in
    let word = unpacked c.unpack.result c.unwrap-item.result w c.unpack.ensures.some c.unwrap-item.ensures in
    let d = did_put b bucket o c.args.place c.unwrap-item.result w p filled r.pass r.spare r.last word c.fill_overflow.ensures.did in
    may_chain b bucket o c.args.place w filled d.moved.pass
    (spare_filled b bucket o c.args.place w p r.pass r.spare r.last filled d)
    (last_filled b bucket o c.args.place w p r.pass r.spare r.last filled d)
    (copy_filled b bucket o c.args.place w p r.pass r.spare r.last filled d)

pub returns : goal.returns
returns c = let b = c.args.board.now in let r = c.requires in let p = c.args.pass.now in let filled = c.fill_overflow.new.pass in
    let bucket = home_at b c.args.place p in let o = c.args.overflow in let w = c.args.word in
    let word = unpacked c.unpack.result c.unwrap-item.result w c.unpack.ensures.some c.unwrap-item.ensures in
    let d = did_put b bucket o c.args.place c.unwrap-item.result w p filled r.pass r.spare r.last word c.fill_overflow.ensures.did in
    let there = home_is b bucket o c.args.place w filled d.moved.pass
    (spare_filled b bucket o c.args.place w p r.pass r.spare r.last filled d)
    (last_filled b bucket o c.args.place w p r.pass r.spare r.last filled d) in
    let put = c.fill_overflow.ensures.step.1 in let step = c.chain.ensures.step.1 in record {
      tries = tried b bucket o c.args.place w p filled c.chain.new.pass r.pass r.spare r.last d put.plain put.memo c.chain.result
          (subst (λ k. OnOk c.chain.result (AddsAtOnce b (Chained (number filled) k o ∷ []) filled c.chain.new.pass)) there c.chain.ensures.chained) c.chain.ensures.missed step.plain step.memo;
      steps = (let store = one_step b p filled _ _ put in let exchange = one_step b filled c.chain.new.pass _ _ step in omega (arith, store, exchange));
    }

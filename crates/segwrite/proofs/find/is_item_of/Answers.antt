use Rattle.std.proofs.Common.{sym, ◌∙◌}
use Rattle.std.proofs.lemmas.Bool.{both_ways, false≢true}
use Rattle.std.specs.Prelude.{IsSome}
use Rattle.segstore.proofs.Refills.{idles}
use Rattle.segwrite.proofs.Items.{named, named_later, item_readable, row_tells, tag_is}
use Rattle.segwrite.proofs.Places.{looked_idles}
use Rattle.segwrite.proofs.find.is_item_of.Goals as goal

pub row_of_key-requires-clause-readable : goal.row_of_key-requires-clause-readable
row_of_key-requires-clause-readable c = let b = c.args.board.now in let r = c.requires in
    item_readable b _ _ _ c.in-Some.item r.pass r.bit (named b.shape _ _ _ c.args.target.word c.in-Some.item r.pass.valid r.pass.lawful r.word c.in-Some.ensures.some)

pub returns-in-Some-clause-idles : goal.returns-in-Some-clause-idles
returns-in-Some-clause-idles c = looked_idles _ _ _ c.row_of_key.ensures.reads.looked

pub returns-in-Some-clause-is : goal.returns-in-Some-clause-is
returns-in-Some-clause-is c = let b = c.args.board.now in let r = c.requires in
    let i = looked_idles b c.args.pass.now c.row_of_key.new.pass c.row_of_key.ensures.reads.looked in
    let name = named b.shape _ _ _ c.args.target.word c.in-Some.item r.pass.valid r.pass.lawful r.word c.in-Some.ensures.some in
    let later = named_later b _ _ _ c.args.target.place c.in-Some.item i r.bit r.chain name in
    let tells = row_tells b.shape _ _ _ c.args.sought.now.key c.in-Some.item (IsSome c.row_of_key.result) i.moved.pass.lawful later c.row_of_key.ensures.key in
    (λ t. tells.0 (sym c.is_some.ensures ∙ t), λ has. c.is_some.ensures ∙ tells.1 has)

pub returns-then-not-has_tag-clause-idles : goal.returns-then-not-has_tag-clause-idles
returns-then-not-has_tag-clause-idles c = idles _ _ c.requires.pass

pub returns-then-not-has_tag-clause-is : goal.returns-then-not-has_tag-clause-is
returns-then-not-has_tag-clause-is c = let b = c.args.board.now in let r = c.requires in (
  λ t. absurd (false≢true t),
  λ has. absurd
      (both_ways _ c.if-not-has_tag.true (c.has_tag.ensures.1
      (tag_is b.shape _ _ _ c.args.target.word c.args.sought.now.key r.pass.valid r.pass.lawful r.word has
      ∙ sym r.sought.tag))),
)

pub returns-in-None-clause-idles : goal.returns-in-None-clause-idles
returns-in-None-clause-idles c = idles _ _ c.requires.pass

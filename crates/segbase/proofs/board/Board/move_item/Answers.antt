use Rattle.std.proofs.Common.{refl, sym, ap, ◌∙◌, [], ◌∷◌, cond, eqb}
use Rattle.segmodel.specs.Words.{bucket_of}
use Rattle.segcore.specs.declared.event.Event.TheVariants.{Relinked}
use Rattle.segcore.specs.Words.{packed, slot}
use Rattle.segbase.specs.Passes.{number, trace}
use Rattle.segbase.specs.Spots.{position}
use Rattle.segbase.proofs.Exchanging.{hit, missed}
use Rattle.segbase.proofs.board.Board.move_item.Goals as goal

pub returns-then-there-old-clause-moved : goal.returns-then-there-old-clause-moved
returns-then-there-old-clause-moved g c =
    let word = c.requires.1.0 in let b = c.args.self.now in let p = c.args.pass.now in let new = c.args.item in
    let event = Relinked (number p) g.named.key g.named.segment g.named.row new.seg new.row (position b.shape (trace p) c.args.place) in
    hit b p c.put-there.new.pass _ event c.put-there.result c.args.old
    (ap (λ old. cond (eqb c.put-there.result old) (event ∷ []) []) (ap (λ tag. packed tag new.freq g.named.segment g.named.row) (sym word.0) ∙ sym word.1))
    c.if-there-old.true c.put-there.ensures

pub returns-else-there-old-clause-missed : goal.returns-else-there-old-clause-missed
returns-else-there-old-clause-missed g c =
    let word = c.requires.1.0 in let may = c.requires.1.1 in let b = c.args.self.now in let p = c.args.pass.now in let new = c.args.item in
    let event = Relinked (number p) g.named.key g.named.segment g.named.row new.seg new.row (position b.shape (trace p) c.args.place) in
    missed b p _ _ event c.args.place c.put-there.result c.args.old (bucket_of b.shape g.named.key) _ (slot g.named.key g.named.segment g.named.row) c.requires.0 may.0.guarded refl may.1 may.0.suits.2
    (ap (λ old. cond (eqb c.put-there.result old) (event ∷ []) []) (ap (λ tag. packed tag new.freq g.named.segment g.named.row) (sym word.0) ∙ sym word.1))
    c.if-there-old.false c.put-there.ensures

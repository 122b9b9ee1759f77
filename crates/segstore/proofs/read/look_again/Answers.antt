use Rattle.std.proofs.Common.{refl}
use Rattle.segstore.proofs.Seconds.{sees_again}
use Rattle.segstore.proofs.read.look_again.Goals as goal

pub returns-clause-same : goal.returns-clause-same
returns-clause-same c = let l = c.look-now in
    sees_again c.args.board.now c.args.pass.now l.new.pass c.args.place c.args.word l.result
    c.with_frequency_of.result l.ensures.did c.requires.place c.requires.inside l.ensures.found
    (c.if-not-same_item.ensures.0 refl)
    c.with_frequency_of.ensures

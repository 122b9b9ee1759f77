use Rattle.std.proofs.Common.{ap, sym, ◌∙◌}
use Rattle.segcore.specs.Words.{View, word}
use Rattle.segbase.specs.Spots.{cell_at}
use Rattle.segbase.proofs.Standing.{reads}
use Rattle.segbase.proofs.board.Board.look.Goals as goal

pub returns-clause-reads : goal.returns-clause-reads
returns-clause-reads c = λ bucket at is. let s = c.load_at.ensures in let z = c.args.self.now.shape in
    reads z _ bucket at c.load_at.result (cell_at z c.args.place) c.requires.pass.valid s.did.moved.pass.lawful
    (s.told.found_is ∙ ap (λ h. word z h (cell_at z c.args.place))
    (sym (ap (λ (v : View). v.trace) s.told.now))) is

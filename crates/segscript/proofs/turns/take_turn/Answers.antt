use Rattle.std.proofs.Common.{sym, subst}
use Rattle.segmodel.specs.declared.answer.Outcome.TheVariants.{Answered}
use Rattle.segindex.proofs.Commands.{command_holds}
use Rattle.segscript.specs.Passes.{TakesTurn}
use Rattle.segscript.specs.Told.{draw}
use Rattle.segscript.proofs.Turning.{serve_turn, still_kept}
use Rattle.segscript.proofs.turns.take_turn.Goals as goal

pub returns-in-Serve-clause-turn : goal.returns-in-Serve-clause-turn
returns-in-Serve-clause-turn c = let b = c.args.index.now.board in let p = c.args.pass.now in let q = c.serve.new.pass in
    subst (λ turn. TakesTurn b turn (Answered c.serve.result) p q) (sym c.in-Serve.is) (serve_turn b p q c.in-Serve.command c.serve.result c.serve.ensures.on c.serve.ensures.answers)

pub returns-in-Serve-clause-hold : goal.returns-in-Serve-clause-hold
returns-in-Serve-clause-hold c = let b = c.args.index.now.board in let p = c.args.pass.now in let q = c.serve.new.pass in
    still_kept b.shape c.args.held.now p q c.requires.hold (command_holds b p q c.in-Serve.command draw c.serve.result c.serve.ensures.answers)

use Rattle.std.proofs.Common.{subst}
use Rattle.segwrite.specs.Refusing.{request_of}
use Rattle.segwrite.specs.Writes.{Writes}
use Rattle.segwrite.proofs.Told.{stores_always}
use Rattle.segwrite.proofs.writing.write.Goals as goal

pub returns-clause-writes : goal.returns-clause-writes
returns-clause-writes c = let wrote = c.write_sought in
    subst (λ k. Writes c.args.board.now (request_of c.args.condition k c.args.value.now c.args.now) wrote.result.0 c.args.pass.now wrote.new.pass)
    c.of.ensures.key wrote.ensures.writes

pub returns-clause-set : goal.returns-clause-set
returns-clause-set c always = let wrote = c.write_sought in let key = c.of.result.key in
    stores_always c.args.board.now key c.args.value.now c.args.now wrote.result.0 c.args.pass.now wrote.new.pass
    (subst (λ w. Writes c.args.board.now (request_of w key c.args.value.now c.args.now) wrote.result.0 c.args.pass.now wrote.new.pass) always wrote.ensures.writes)

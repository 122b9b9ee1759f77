use Rattle.std.proofs.Common.{subst, sym}
use Rattle.segreplay.specs.Traces.{TakesStated}
use Rattle.segreplay.proofs.Feeding.{header_taken, nothing_taken}
use Rattle.segreplay.proofs.reading.TracePosition.take_stated.Goals as goal

pub returns-in-Nothing : goal.returns-in-Nothing
returns-in-Nothing c = nothing_taken c.args.stated c.args.self.now c.in-Nothing.is

pub returns-in-Header : goal.returns-in-Header
returns-in-Header c = header_taken c.args.stated c.in-Header.columns c.args.self.now c.in-Header.is

pub returns-in-Command : goal.returns-in-Command
returns-in-Command c =
    subst (λ said. TakesStated said c.args.self.now c.take_request.new.self c.take_request.result) (sym c.in-Command.is) c.take_request.ensures

use Rattle.segsolo.proofs.AloneCommands.{serves_command}
use Rattle.segsolo.proofs.solo.Solo.answer.Goals as goal

pub invariant_of-self : goal.invariant_of-self
invariant_of-self c = let self = c.args.self.now in
    record { alone = (serves_command self.index.board self.pass c.serve.new.pass c.args.command.now c.serve.result self.alone c.serve.ensures.answers).0 }

pub returns-clause-serves : goal.returns-clause-serves
returns-clause-serves c = let self = c.args.self.now in
    (serves_command self.index.board self.pass c.serve.new.pass c.args.command.now c.serve.result self.alone c.serve.ensures.answers).1

use Rattle.segscript.proofs.WordLemmas.{none-pass}
use Rattle.segscript.proofs.word.pass.Goals as goal

pub returns-else-pass-passes : goal.returns-else-pass-passes
returns-else-pass-passes c = none-pass c.args.passes _ c.args.word.now c.in_ok-pass.ensures c.if-pass-passes.false

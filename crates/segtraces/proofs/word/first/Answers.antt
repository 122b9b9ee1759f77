use Rattle.std.proofs.Common.{refl}
use Rattle.segtraces.proofs.Parts.{more_parts, one_part}
use Rattle.segtraces.proofs.word.first.Goals as goal

pub returns-in-None : goal.returns-in-None
returns-in-None c = rw (one_part c.args.at c.args.text.now c.in-None.ensures) refl

pub returns-in-Some : goal.returns-in-Some
returns-in-Some c = rw (more_parts c.args.at _ _ c.in-Some.ensures.0 c.in-Some.ensures.1) refl

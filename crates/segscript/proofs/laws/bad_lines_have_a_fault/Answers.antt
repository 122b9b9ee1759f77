use Rattle.segscript.proofs.Reasons.{exactly}
use Rattle.segscript.proofs.laws.bad_lines_have_a_fault.Goals as goal

pub returns : goal.returns
returns c = exactly

use Rattle.segread.proofs.NeverShort.{get_never, gets_never, held_never}
use Rattle.segread.proofs.limits.never_short.Goals as goal

pub returns : goal.returns
returns c = record { get = get_never; gets = gets_never; held = held_never }

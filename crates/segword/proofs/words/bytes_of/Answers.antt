use Rattle.std.proofs.Common.{arith}
use Rattle.std.proofs.lemmas.List.FromFn.{fill_by_all}
use Rattle.segword.specs.Row.{byte_at, bytes_of}
use Rattle.segword.proofs.words.bytes_of.Goals as goal

pub returns : goal.returns
unfolding bytes_of
returns g c = fill_by_all (byte_at c.args.words.now) c.loop-i.all g.row.N 0 c.loop-i.invariant.len (λ k h. c.loop-i.invariant.made k (omega arith))

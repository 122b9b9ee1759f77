use Rattle.std.proofs.Common.{ap, sym, ◌∙◌}
use Rattle.segword.specs.Fnv.{hash_of}
use Rattle.segword.proofs.key.Key.kept_hash.Goals as goal

pub returns : goal.returns
returns c = sym c.self.invariant.same_hash ∙ ap hash_of c.self.view_is

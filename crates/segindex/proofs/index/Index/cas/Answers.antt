use Rattle.std.proofs.Common.{subst}
use Rattle.segmodel.specs.declared.request.Request.TheVariants.{Cas}
use Rattle.segwrite.specs.Words.{Writes}
use Rattle.segindex.specs.Index.{board_of}
use Rattle.segindex.proofs.index.Index.cas.Goals as goal

pub returns : goal.returns
returns c = record {
  writes = subst (λ v. Writes (board_of c.args.self.now) (Cas c.args.key.now v c.args.expected c.args.now) c.write.result.0 c.args.pass.now c.write.new.pass) c.of.ensures.value c.write.ensures.writes;
}

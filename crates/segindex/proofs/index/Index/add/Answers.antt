use Rattle.std.proofs.Common.{subst}
use Rattle.segmodel.specs.declared.request.Request.TheVariants.{Add}
use Rattle.segwrite.specs.Words.{Writes}
use Rattle.segindex.specs.Index.{board_of}
use Rattle.segindex.proofs.index.Index.add.Goals as goal

pub returns : goal.returns
returns c = record {
  writes = subst (λ v. Writes (board_of c.args.self.now) (Add c.args.key.now v c.args.now) c.write.result.0 c.args.pass.now c.write.new.pass) c.of.ensures.value c.write.ensures.writes;
}

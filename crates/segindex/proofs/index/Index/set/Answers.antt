use Rattle.std.proofs.Common.{refl, subst}
use Rattle.segmodel.specs.declared.request.Request.TheVariants.{Set}
use Rattle.segwrite.specs.Words.{Writes}
use Rattle.segindex.specs.Index.{board_of}
use Rattle.segindex.proofs.index.Index.set.Goals as goal

pub returns : goal.returns
returns c = record {
  writes = subst (λ v. Writes (board_of c.args.self.now) (Set c.args.key.now v c.args.now) c.write.result.0 c.args.pass.now c.write.new.pass) c.of.ensures.value c.write.ensures.writes;
  set = c.write.ensures.set refl;
}

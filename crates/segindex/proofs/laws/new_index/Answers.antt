use Rattle.segindex.proofs.Made.{each_new}
use Rattle.segindex.proofs.laws.new_index.Goals as goal

pub returns : goal.returns
returns c = record {
  shape = λ shape index passes new. (new.made.valid, new.made.of, new.made.dealt.long);
  passes = λ shape index passes new n p is. (each_new shape index passes new n p is).0;
}

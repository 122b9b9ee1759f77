use Rattle.segbase.specs.Words.{number, trace}
use Rattle.segbase.proofs.Alone.{glanced_alone}
use Rattle.segindex.proofs.OnePass.{all_mine, free_of_others, nobody_inside, busy_by_lock, none_stirred, all_joined}
use Rattle.segindex.proofs.laws.one_pass.Goals as goal

pub returns : goal.returns
returns c = record {
  own = λ b p quiet one. all_mine (number p) (trace p) (quiet.pass.alone one);
  free = λ b p quiet one bucket. free_of_others b p bucket quiet one;
  unglanced = λ b p quiet one bucket. glanced_alone b p bucket quiet.pass one;
  nobody = λ b p quiet one other segment apart. nobody_inside (number p) other segment (trace p) apart (quiet.pass.alone one);
  unbusy = λ b p q old new one bucket busy. busy_by_lock b p q bucket old new one busy;
  joined = λ b p quiet one bucket. all_joined b p bucket quiet one;
  still = λ b p q old new one key same. none_stirred b p q key old new one same;
}

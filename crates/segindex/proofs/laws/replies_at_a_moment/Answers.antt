use Rattle.segwrite.proofs.Told.{write_since, delete_since}
use Rattle.segindex.proofs.laws.replies_at_a_moment.Goals as goal

pub returns : goal.returns
returns c = record {
  writes = λ b p q request told said w is. write_since b request told said p q w is;
  deletes = λ b p q key now told said d is. delete_since b key now told said p q d is;
}

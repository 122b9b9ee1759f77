use Rattle.segindex.proofs.Meeting.{meets, only_learns}
use Rattle.segindex.proofs.index.Index.meet.Goals as goal

pub returns : goal.returns
returns c =
    let b = c.args.self.now.board in let p = c.args.first.now in let q = c.args.second.now in
    let p' = c.meet.new.first in let q' = c.meet.new.second in let m = c.meet.ensures in
    record {
      meets = record {
        first = only_learns b p p' c.requires.first m.first.0 m.first.1 m.first.2;
        second = only_learns b q q' c.requires.second m.second.0 m.second.1 m.second.2;
        meets = meets b p q p' q' m.first.0 m.second.0 m.one m.met.0 m.met.1;
      };
    }

use Rattle.std.proofs.Common.{refl}
use Rattle.segindex.specs.Words.{board_of}
use Rattle.segclient.specs.PutParts.{with_effort}
use Rattle.segclient.proofs.member.Member.put_making_room.Goals as goal

pub returns-clause-puts : goal.returns-clause-puts
returns-clause-puts c = λ start is.
    let b = board_of c.args.index.now in
    let old = c.args.self.now in
    let last = c.put_at_last-told in
    let told = last.result.0 in
    let effort = last.result.1 in
    record {
      effort = effort;
      between = record old { pass = last.new.pass; segments = last.new.segments; stats = with_effort effort old.stats };
      puts = last.ensures.puts start is;
      counts = refl;
      draws = refl;
      settings = record { number = last.ensures.on.same; clock = refl; time_to_live = refl; cutoff = refl; queues = last.ensures.queues };
      ends = c.end_put.ensures.ends;
    }

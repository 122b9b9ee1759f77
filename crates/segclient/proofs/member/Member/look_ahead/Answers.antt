use Rattle.std.proofs.Common.{refl}
use Rattle.segindex.specs.Words.{board_of}
use Rattle.segclient.proofs.Cleared.{member_goes, nothing_stays}
use Rattle.segclient.proofs.member.Member.look_ahead.Goals as goal

pub returns-clause-member : goal.returns-clause-member
returns-clause-member c =
    let b = board_of c.args.index.now in
    let old = c.args.self.now in
    let call = c.look_ahead in
    let on = call.ensures.looks.only.on in
    member_goes c.args.index.now old call.new.pass c.requires.member on
    (nothing_stays b old.pass call.new.pass c.requires.member.0 on call.ensures.looks.only.keeps.entries)

pub returns-clause-looks : goal.returns-clause-looks
returns-clause-looks c = let looks = c.look_ahead.ensures.looks in record {
  looks = looks;
  counts = record {
    stats = refl;
    draws = refl;
    keeps = record {
      settings = record { number = looks.only.on.same; clock = refl; time_to_live = refl; cutoff = refl; queues = refl };
      segments = refl;
    };
  };
}

use Rattle.std.proofs.Common.{◌≡◌, not, refl, ap, subst}
use Rattle.segindex.specs.Words.{board_of}
use Rattle.segclient.specs.PutParts.{is_outside}
use Rattle.segclient.specs.Puts.{ChoosesFor}
use Rattle.segclient.proofs.Added.{chosen_on}
use Rattle.segclient.proofs.Cleared.{member_goes, nothing_stays}
use Rattle.segclient.proofs.member.Member.begin_write.Goals as goal

pub returns-clause-member : goal.returns-clause-member
returns-clause-member c =
    let b = board_of c.args.index.now in
    let old = c.args.self.now in
    let chosen = c.choose.new.pass in
    let from = chosen_on b old.pass chosen c.requires.member.0 c.choose.ensures.chooses in
    member_goes c.args.index.now old chosen c.requires.member from.on (nothing_stays b old.pass chosen c.requires.member.0 from.on from.entries)

pub returns-clause-begins : goal.returns-clause-begins
returns-clause-begins c =
    let b = board_of c.args.index.now in
    let old = c.args.self.now in
    let chosen = c.choose.new.pass in
    let from = chosen_on b old.pass chosen c.requires.member.0 c.choose.ensures.chooses in
    record {
      chooses = subst (λ window. ChoosesFor window b old.pass chosen) c.window_for-window.ensures c.choose.ensures;
      timely = subst (λ window. not c.is_outside.result ≡ not (is_outside window chosen)) c.window_for-window.ensures (ap not c.is_outside.ensures);
      counts = record { stats = refl; draws = refl; keeps = record { settings = record { number = from.on.same; clock = refl; time_to_live = refl; cutoff = refl; queues = refl }; segments = refl } };
    }

use Rattle.std.proofs.Common.{ℕ, ◌/◌, refl, ap, subst, ◌∙◌}
use Rattle.segindex.specs.Words.{board_of}
use Rattle.segread.specs.Words.{ReadsVersion}
use Rattle.segtally.specs.declared.tally.Tally.{Tally}
use Rattle.segclient.specs.Counting.{counted}
use Rattle.segclient.proofs.Cleared.{member_goes, nothing_stays}
use Rattle.segclient.proofs.Copied.{gets_tally_told}
use Rattle.segclient.proofs.member.Member.gets_into.Goals as goal

pub returns-clause-member : goal.returns-clause-member
returns-clause-member c =
    let b = board_of c.args.index.now in
    let old = c.args.self.now in
    let call = c.gets_into-told in
    let reads = call.ensures.reads.reads in
    member_goes c.args.index.now old call.new.pass c.requires.member reads.on
    (nothing_stays b old.pass call.new.pass c.requires.member.0 reads.on reads.keeps.entries)

pub returns-clause-reads : goal.returns-clause-reads
returns-clause-reads c =
    let call = c.gets_into-told.ensures.reads in
    let old = c.args.self.now in let drawn = c.drawn-self.ensures in record {
      answer = call.answer;
      reads = record {
        reads = subst (λ (draws : ℕ). ReadsVersion (board_of c.args.index.now) c.args.key.now (draws / 256) old.clock call.answer old.pass c.gets_into-told.new.pass) drawn call.reads;
        counts = c.count.ensures ∙ ap (λ (tally : Tally). counted tally old.stats) (c.of_gets_into.ensures ∙ gets_tally_told call.answer c.gets_into-told.result _ _ call.copies);
        draws = drawn;
        keeps = record {
          settings = record { number = call.reads.on.same; clock = refl; time_to_live = refl; cutoff = refl; queues = refl };
          segments = refl;
        };
      };
      copies = call.copies;
    }

use Rattle.std.proofs.Common.{refl, ap}
use Rattle.segmodel.specs.declared.request.Request.TheVariants.{Set}
use Rattle.segmodel.specs.declared.request.Reply.TheVariants.{Stored}
use Rattle.segmodel.specs.Words.{reply_of_write}
use Rattle.segcore.specs.Event as event
use Rattle.segcore.proofs.Moments.{begins_on, seen_begins}
use Rattle.segbase.specs.Words.{number, seen, trace}
use Rattle.segindex.proofs.Since.{grew_seen}
use Rattle.segindex.specs.Index.{board_of}
use Rattle.segindex.proofs.Probing.{read_since}
use Rattle.segindex.proofs.index.Index.probe.Goals as goal

pub returns-in_default : goal.returns-in_default
returns-in_default c = record {
  probes = record {
    between = c.set-told.new.pass;
    writes = c.set-told.ensures.writes;
    set = c.set-told.ensures.set;
    refused = λ other. (refl, refl);
    reads = λ stored. absurd (c.in_default.not-Stored stored);
    stored = λ stored. absurd (c.in_default.not-Stored stored);
  };
}

pub returns : goal.returns
returns c =
    let b = board_of c.args.self.now in
    let between = c.set-told.new.pass in
    let q = c.get-read.new.pass in
    let get = c.get-read.ensures.reads in
    let key = c.args.key.now in
    let value = c.args.value.now in
    let law = c.replies_at_a_moment.ensures.writes b c.args.pass.now between (Set key value c.args.now) c.set-told.result Stored c.set-told.ensures.writes (ap reply_of_write c.in-Stored.is) in
    let told = law.2 in let is = told.1.1 in
    record {
      probes = record {
        between = between;
        writes = c.set-told.ensures.writes;
        set = c.set-told.ensures.set;
        refused = λ other. absurd (other c.in-Stored.is);
        reads = λ stored. get;
        stored = λ stored. record {
          segment = told.0;
          history = told.1.0;
          stored = record { since = begins_on (seen c.args.pass.now) (event.seen law.0) told.1.0 (grew_seen c.args.pass.now between law.0 law.1) is.since; entered = is.entered; replied = is.replied };
          read = let start = get.answer.0 in let first = get.answer.1 in (
            start,
            first,
            read_since c.legal_histories.ensures.earlier c.reads_change_by_entries.ensures.gone c.reads_change_by_entries.ensures.changed
                b.shape (number c.args.pass.now) key value c.args.now c.get-read.result told.0 told.1.0 (event.seen start) (seen q)
                (c.quiet_pass.ensures.legal b q get.on.quiet) (seen_begins start (trace q) first.until)
                (begins_on _ (seen between) (event.seen start) told.1.1.entered (grew_seen between q start first)) get.answer.2,
          );
        };
      };
    }

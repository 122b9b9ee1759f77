use Rattle.std.proofs.Common.{subst}
use Rattle.segmodel.proofs.LawLemmas.{earlier_legal}
use Rattle.segmodel.proofs.ReadChanges.{gone_is_taken_out, changed_is_stored}
use Rattle.segcore.proofs.Moments.{begins_on}
use Rattle.segcore.proofs.Standing.{legal}
use Rattle.segcore.specs.Event as event
use Rattle.segbase.specs.Words.{seen, seen_of, trace}
use Rattle.segread.specs.Words.{IsGetAnswer}
use Rattle.segindex.proofs.Since.{get_since, same_start}
use Rattle.segindex.proofs.LaterReads.{later_read, stores_since}
use Rattle.segindex.proofs.laws.what_stood_is_read.Goals as goal

pub returns : goal.returns
returns c = record {
  stored = λ b request p q writes. stores_since b request p q writes;
  seen = λ b key value draw now told stood start p q stands starts begins reads.
      later_read earlier_legal gone_is_taken_out changed_is_stored b.shape key value now told stood (event.seen start) (seen q)
      (legal b.shape (trace q) reads.on.quiet.pass.lawful) stands begins
      (subst (λ h. IsGetAnswer b.shape key now told (event.seen h) (seen q)) (same_start p q reads.answer.0 start reads.answer.1 starts) reads.answer.2);
  stood = λ b key value draw now told stood p q stands begins reads.
      later_read earlier_legal gone_is_taken_out changed_is_stored b.shape key value now told stood (seen p) (seen q)
      (legal b.shape (trace q) reads.on.quiet.pass.lawful) stands begins (get_since b.shape key now told p q reads.answer);
  noted = λ b note key value draw now told stood before learned p q stands begins learns more reads.
      let learned_it = begins_on stood (seen_of note) (seen learned) begins learns.seen in
      later_read earlier_legal gone_is_taken_out changed_is_stored b.shape key value now told stood (seen p) (seen q)
      (legal b.shape (trace q) reads.on.quiet.pass.lawful) stands (begins_on stood (seen learned) (seen p) learned_it more) (get_since b.shape key now told p q reads.answer);
}

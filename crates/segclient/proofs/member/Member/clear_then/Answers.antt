use Rattle.std.proofs.Common.{not, refl, sym, ap, ◌∙◌, subst}
use Rattle.std.proofs.lemmas.Bool.{false≢true}
use Rattle.segbase.specs.Words.{number}
use Rattle.segindex.specs.Words.{board_of}
use Rattle.segtally.specs.Rings.{IsOwnRing}
use Rattle.segclient.specs.Clearing.{IsCleared}
use Rattle.segclient.proofs.Steps.{nothing_cleared}
use Rattle.segclient.proofs.member.Member.clear_then.Goals as goal

pub returns-in_default-clause-clears : goal.returns-in_default-clause-clears
returns-in_default-clause-clears c = let old = c.args.self.now in record {
  some = nothing_cleared (board_of c.args.index.now) old.cutoff c.none.result old.pass c.none.ensures;
  unasked = λ other. (refl, refl);
  unqueued = λ none. (refl, refl);
  stats = refl;
  draws = refl;
  settings = record { number = refl; clock = refl; time_to_live = refl; cutoff = refl; queues = refl };
}

pub returns-then-is_none-clause-clears : goal.returns-then-is_none-clause-clears
returns-then-is_none-clause-clears c = let old = c.args.self.now in record {
  some = nothing_cleared (board_of c.args.index.now) old.cutoff c.none-then-is_none.result old.pass c.none-then-is_none.ensures;
  unasked = λ other. (refl, refl);
  unqueued = λ none. (refl, refl);
  stats = refl;
  draws = refl;
  settings = record { number = refl; clock = refl; time_to_live = refl; cutoff = refl; queues = refl };
}

pub returns-then-not-is_due-clause-clears : goal.returns-then-not-is_due-clause-clears
returns-then-not-is_due-clause-clears c = let old = c.args.self.now in record {
  some = nothing_cleared (board_of c.args.index.now) old.cutoff c.none-then-not-is_due.result old.pass c.none-then-not-is_due.ensures;
  unasked = λ other. absurd (other c.in-Stored.is);
  unqueued = λ none. absurd (false≢true (sym none ∙ c.is_none.ensures ∙ ap not c.if-is_none.false));
  stats = refl;
  draws = refl;
  settings = record { number = refl; clock = refl; time_to_live = refl; cutoff = refl; queues = c.tell_stored.ensures.queues };
}

pub clear_some-requires : goal.clear_some-requires
clear_some-requires c =
    let old = c.args.self.now in
    let b = board_of c.args.index.now in
    record {
      quiet = c.requires.member.0;
      own = subst (IsOwnRing b.shape (number old.pass)) (sym c.tell_stored.ensures.ring) c.requires.member.1;
      cleared = subst (λ source. IsCleared b.shape source old.pass) (sym c.tell_stored.ensures.source) c.requires.member.2;
    }

pub returns-clause-clears : goal.returns-clause-clears
returns-clause-clears c =
    let old = c.args.self.now in
    let after = c.clear_some in
    record {
      some = after.ensures.clears;
      unasked = λ other. absurd (other c.in-Stored.is);
      unqueued = λ none. absurd (false≢true (sym none ∙ c.is_none.ensures ∙ ap not c.if-is_none.false));
      stats = refl;
      draws = refl;
      settings = record { number = after.ensures.on.same; clock = refl; time_to_live = refl; cutoff = refl; queues = after.ensures.queues ∙ c.tell_stored.ensures.queues };
    }

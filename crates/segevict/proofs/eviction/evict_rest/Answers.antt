use Rattle.std.proofs.Common.{rules, ◌≡◌, ◌≢◌, Some, refl, sym, subst, inr}
use Rattle.segmodel.specs.declared.answer.SegState.TheVariants.{InUse}
use Rattle.segbase.specs.Words.{current_of, state_of}
use Rattle.segbase.proofs.Moves.{stays}
use Rattle.segstore.specs.Words.{GoesOn, IsQuiet}
use Rattle.segevict.specs.Evicting.{CostsOfEvict, IsEvictAnswer}
use Rattle.segevict.specs.Naming.{AreUnnamed}
use Rattle.segevict.specs.Tries.{StoodIn}
use Rattle.segstore.proofs.Idling.{goes_same}
use Rattle.segevict.proofs.Evictions.{closed, closed_over, closes_on, evict_answers, evict_costs}
use Rattle.segevict.proofs.KeyTries.{no_tries}
use Rattle.segevict.proofs.RowsOut.{goes_then}
use Rattle.segevict.proofs.eviction.evict_rest.Goals as goal

pub evict_rows-requires-clause-quiet : goal.evict_rows-requires-clause-quiet
evict_rows-requires-clause-quiet c =
    let in_use : state_of c.args.pass.now c.args.segment ≡ Some InUse = search rules in
    subst (IsQuiet c.args.board.now) (sym c.end_storing.ensures) (closes_on c.args.board.now c.args.segment c.args.pass.now c.requires.quiet in_use).quiet

pub evict_rows-requires-clause-in_use : goal.evict_rows-requires-clause-in_use
evict_rows-requires-clause-in_use c =
    let in_use : state_of c.args.pass.now c.args.segment ≡ Some InUse = search rules in
    subst (λ r. state_of r c.args.segment ≡ Some InUse) (sym c.end_storing.ensures) in_use

pub evict_rows-requires-clause-ended : goal.evict_rows-requires-clause-ended
evict_rows-requires-clause-ended c =
    let in_use : state_of c.args.pass.now c.args.segment ≡ Some InUse = search rules in
    subst (λ r. current_of r ≢ Some c.args.segment) (sym c.end_storing.ensures) (closed_over c.args.board.now c.args.segment c.args.pass.now c.requires.quiet in_use)

pub evict_rows-requires-clause-unnamed : goal.evict_rows-requires-clause-unnamed
evict_rows-requires-clause-unnamed c =
    subst (AreUnnamed c.args.board.now.shape c.args.segment c.args.from) (sym c.end_storing.ensures) c.requires.unnamed

pub returns-in_default : goal.returns-in_default
returns-in_default c = record {
  evicts = record {
    on = goes_same c.args.board.now c.args.pass.now c.requires.quiet;
    answer = refl;
    not_yours = search rules;
    costs = record {
      order = λ in_use. search (rules, in_use);
      tries = λ rows is. no_tries c.args.board.now
          (λ key. StoodIn c.args.board.now.shape c.args.segment key c.args.pass.now c.args.pass.now) rows
          c.args.pass.now c.args.pass.now (stays c.args.board.now c.args.pass.now c.requires.quiet.pass);
      draws_nothing = λ bucket. refl;
      reads_nothing = refl;
    };
  };
}

pub returns-then-ne : goal.returns-then-ne
returns-then-ne c = record {
  evicts = record {
    on = goes_same c.args.board.now c.args.pass.now c.requires.quiet;
    answer = inr (search rules, refl, refl);
    not_yours = search rules;
    costs = record {
      order = λ in_use. search (rules, in_use);
      tries = λ rows is. no_tries c.args.board.now
          (λ key. StoodIn c.args.board.now.shape c.args.segment key c.args.pass.now c.args.pass.now) rows
          c.args.pass.now c.args.pass.now (stays c.args.board.now c.args.pass.now c.requires.quiet.pass);
      draws_nothing = λ bucket. refl;
      reads_nothing = refl;
    };
  };
}

pub returns : goal.returns
returns c =
    let b = c.args.board.now in let s = c.args.segment in let p = c.args.pass.now in let q = c.evict_rows.new.pass in let told = c.evict_rows.result in
    let e = c.end_storing.ensures in let rows = c.evict_rows.ensures in
    let in_use : state_of p s ≡ Some InUse = search rules in
    record {
      evicts = record {
        on = goes_then b p (closed b s p c.requires.quiet in_use) q (closes_on b s p c.requires.quiet in_use) (subst (λ r. GoesOn b r q) e rows.on);
        answer = evict_answers b s p c.requires.quiet in_use told q (subst (λ r. IsEvictAnswer b.shape s told r q) e rows.answer) rows.yours;
        not_yours = search (rules, in_use, rows.yours);
        costs = evict_costs b s p c.requires.quiet in_use c.args.from told q (subst (λ r. CostsOfEvict b s c.args.from told r q) e rows.costs);
      };
    }
